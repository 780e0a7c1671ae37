-- Numbers of the language: those of 64 bits. A collection and a state of the code hold no others, by their types.
use Rattle.std.specs.Prelude.{IsTrue, List}
use Rattle.std.specs.List.{All}
use Rattle.dv_bag.specs.Bag.{Counts, is_number}
use Rattle.dv_bag.specs.declared.collection.Collection.{Collection}
use Rattle.dv_bag.specs.declared.collection.Collection.TheVariants as collection
use Rattle.dv_bag.specs.declared.state.Datum.{Datum}
use Rattle.dv_bag.specs.declared.state.Datum.TheVariants as datum

-- each value of a bag is a number of the language
abbrev pub IsBagOfNumbers : Counts → Type 0
IsBagOfNumbers b = All (λ p. IsTrue (is_number p.0)) b

-- each value of a collection is a number of the language
abbrev pub HasNumbers : Collection → Type 0
HasNumbers (collection.Bag b) = IsBagOfNumbers b
HasNumbers (collection.Queue q) = All (λ v. IsTrue (is_number v)) q

-- a number of the language, a truth value, or a collection of such numbers
abbrev pub IsOfNumbers : Datum → Type 0
IsOfNumbers (datum.Number n) = IsTrue (is_number n)
IsOfNumbers (datum.Flag b) = Unit {0}
IsOfNumbers (datum.Held c) = HasNumbers c

-- the variables and collections of a state hold numbers of the language alone
abbrev pub HoldsNumbers : List Datum → Type 0
HoldsNumbers contents = All IsOfNumbers contents
