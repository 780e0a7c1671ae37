-- Keywords by the lengths of their spellings.
use Rattle.std.proofs.Common.{◌≡◌, ◌≢◌, ℕ, Bool, true, ◌||◌, ◌==◌, IsTrue, List, length, ap, refl, sym, ◌∙◌, arith}
use Rattle.std.proofs.lemmas.Bool.Decides.{nat_tests}
use Rattle.dv_lex.specs.declared.token.Keyword.{Keyword}
use Rattle.dv_lex.specs.declared.token.Keyword.TheVariants as keyword
use Rattle.dv_lex.specs.Lexemes.{is_reserved, keyword_text}

-- a word that is no keyword of its length is none
pub of_length : (word : List ℕ) (n : ℕ) → length word ≡ n →
    ((k : Keyword) → length (keyword_text k) ≡ n → IsTrue (is_reserved k) → word ≢ keyword_text k) →
    (k : Keyword) → IsTrue (is_reserved k) → word ≢ keyword_text k
of_length word n long none k reserved same = none k (sym (ap length same) ∙ long) reserved same

-- whether a keyword has this length
abbrev has_keywords : ℕ → Bool
has_keywords n = n == 2 || n == 3 || n == 4 || n == 5 || n == 6 || n == 7 || n == 8 || n == 9

has_keywords-all : (k : Keyword) → has_keywords (length (keyword_text k)) ≡ true
has_keywords-all keyword.Atomic = refl
has_keywords-all _ = refl

-- a word of another length is no keyword
pub of_no_length : (word : List ℕ) → length word ≢ 2 → length word ≢ 3 → length word ≢ 4 → length word ≢ 5 → length word ≢ 6 →
    length word ≢ 7 → length word ≢ 8 → length word ≢ 9 → (k : Keyword) → IsTrue (is_reserved k) → word ≢ keyword_text k
of_no_length word two three four five six seven eight nine k reserved same =
    let is : has_keywords (length word) ≡ true = ap (λ w. has_keywords (length w)) same ∙ has_keywords-all k in
    grind (arith, nat_tests)
