-- Looking for a word among those that some things have.
use Rattle.std.proofs.Common.{ℕ, ◌+◌, ◌<◌, ◌≤◌, List, [], length, take, get_or, ◌≡◌, ◌≢◌, true, false}
use Rattle.std.proofs.Common.{sym, subst, ap, ◌∙◌, add-one, rules}
use Rattle.std.specs.List.{All}
use Rattle.std.specs.Str.{bytes_eq}
use Rattle.std.proofs.Math.Seq.{take-suc}
use Rattle.std.proofs.lemmas.List.{take_all}
use Rattle.std.proofs.lemmas.List.Elements.{All-append, All-cons}
use Rattle.std.proofs.lemmas.Slice.Eq.{bytes_eq-Decides}

-- none of the things has the word
abbrev pub AreOthers : {X : Type 0} → (X → List ℕ) → List ℕ → List X → Type 0
AreOthers word_of word xs = All (λ x. word ≢ word_of x) xs

pub words_agree : (xs ys : List ℕ) → true ≡ bytes_eq xs ys → ys ≡ xs
words_agree xs ys equal = sym ((bytes_eq-Decides xs ys).0 (sym equal))

words_differ : (xs ys : List ℕ) → false ≡ bytes_eq xs ys → ys ≢ xs
words_differ xs ys unequal = search (rules, bytes_eq-Decides)

pub none_differs : {X : Type 0} (word_of : X → List ℕ) (word : List ℕ) → AreOthers word_of word []
none_differs word_of word = search rules

pub one_more_differs : {X : Type 0} (word_of : X → List ℕ) (word : List ℕ) (xs : List X) (i : ℕ) (x : X)
    → i < length xs → AreOthers word_of word (take i xs) → false ≡ bytes_eq (word_of (get_or xs i x)) word
    → AreOthers word_of word (take (i + 1) xs)
one_more_differs word_of word xs i x within before unequal =
    let last = All-cons (λ y. word ≢ word_of y) (get_or xs i x) [] (words_differ _ word unequal) (none_differs word_of word) in
    subst (AreOthers word_of word) (sym (ap (λ n. take n xs) (add-one i) ∙ take-suc xs i x within))
    (All-append (λ y. word ≢ word_of y) _ _ before last)

pub all_differ : {X : Type 0} (word_of : X → List ℕ) (word : List ℕ) (xs : List X) (i : ℕ)
    → length xs ≤ i → AreOthers word_of word (take i xs) → AreOthers word_of word xs
all_differ word_of word xs i past before = subst (AreOthers word_of word) (take_all i xs past) before
