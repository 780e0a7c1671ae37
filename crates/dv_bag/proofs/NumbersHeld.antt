-- What the code reads as a number is a number of the language.
use Rattle.std.proofs.Common.{◌≡◌, ◌+◌, ◌<◌, ℕ, ℤ, pos, negsuc, All, List, take, length, get_or, IsTrue, arith, subst}
use Rattle.std.proofs.lemmas.Int.{ints}
use Rattle.std.proofs.lemmas.List.Elements.{All-more}
use mir.Syntax.{w64}
use mir.Val.{SFits}
use Rattle.dv_bag.specs.Bag.{Counts, is_number}
use Rattle.dv_bag.specs.Numbers.{HoldsNumbers, IsBagOfNumbers, IsOfNumbers}
use Rattle.dv_bag.specs.declared.state.Datum.{Datum}
use Rattle.dv_bag.proofs.Pairs.{value_at}

fitting_number : (v : ℤ) → SFits w64 v → IsTrue (is_number v)
fitting_number (pos n) fits = grind (arith, ints)
fitting_number (negsuc n) fits = grind (arith, ints)

-- one value more of a bag
pub one_more_value : (b : Counts) (i : ℕ) → i < length b → SFits w64 (value_at b i)
    → IsBagOfNumbers (take i b) → IsBagOfNumbers (take (i + 1) b)
one_more_value b i within fits numbers =
    All-more (λ p. IsTrue (is_number p.0)) b i (pos 0, 0) within numbers (fitting_number _ fits)

-- one datum more of a state
pub one_more_datum : (contents : List Datum) (i : ℕ) (d : Datum) → i < length contents → IsOfNumbers (get_or contents i d)
    → HoldsNumbers (take i contents) → HoldsNumbers (take (i + 1) contents)
one_more_datum contents i d within number numbers = All-more IsOfNumbers contents i d within numbers number

-- one value more of a queue
pub one_more_of_queue : (q : List ℤ) (i : ℕ) (v : ℤ) → i < length q → v ≡ get_or q i v → SFits w64 v
    → All (λ v. IsTrue (is_number v)) (take i q) → All (λ v. IsTrue (is_number v)) (take (i + 1) q)
one_more_of_queue q i v within is fits numbers =
    All-more (λ v. IsTrue (is_number v)) q i v within numbers (subst (λ v. IsTrue (is_number v)) is (fitting_number v fits))
