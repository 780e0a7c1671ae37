-- The codes of explanations that were found.
use Rattle.std.proofs.Common.{◌≡◌, ◌∙◌, ℕ, Bool, true, false, List, [], ◌∷◌, cond, ap, refl}
use Rattle.std.specs.Borrow.{Bor}
use Rattle.std.specs.Option.{option_or}
use Rattle.std.specs.Prelude.{Option, Some, None, option_map}
use Rattle.std.specs.Str.{bytes_eq}
use Rattle.dv_explain.specs.Codes.{code_found, code_in, codes_of, explanation_in}
use Rattle.dv_explain.specs.declared.explanation.Explanation.{Explanation}

-- of the first that has a code, the code is the first that is the same
code_in_codes : (xs : List Explanation) (code : List ℕ) →
    option_map (λ (e : Explanation). e.code.now) (explanation_in xs code) ≡ code_in (codes_of xs) code
code_in_codes [] code = refl
code_in_codes (x ∷ xs) code = first (bytes_eq x.code.now code) (code_in_codes xs code)
  where
    first : (b : Bool) → option_map (λ (e : Explanation). e.code.now) (explanation_in xs code) ≡ code_in (codes_of xs) code →
        option_map (λ (e : Explanation). e.code.now) (cond b (Some x) (explanation_in xs code))
        ≡ cond b (Some x.code.now) (code_in (codes_of xs) code)
    first true rest = refl
    first false rest = rest

read_once : (o : Option (Bor Explanation)) →
    code_found o ≡ option_map (λ (e : Explanation). e.code.now) (option_map (λ (e : Bor Explanation). e.now) o)
read_once None = refl
read_once (Some e) = refl

-- the code of what was found among explanations that have these codes
pub found_in : (o : Option (Bor Explanation)) (xs : List Explanation) (known : List (List ℕ)) (code : List ℕ) → codes_of xs ≡ known →
    option_map (λ (e : Bor Explanation). e.now) o ≡ explanation_in xs code → code_found o ≡ code_in known code
found_in o xs known code are found =
    read_once o
    ∙ (ap (option_map (λ (e : Explanation). e.code.now)) found
    ∙ (code_in_codes xs code ∙ ap (λ (ks : List (List ℕ)). code_in ks code) are))

found_first : (a b : Option (Bor Explanation)) → code_found (option_or a b) ≡ option_or (code_found a) (code_found b)
found_first None b = refl
found_first (Some e) b = refl

-- the code of the first of two that was found
pub found_or : (a b r : Option (Bor Explanation)) (x y : Option (List ℕ)) → r ≡ option_or a b → code_found a ≡ x → code_found b ≡ y →
    code_found r ≡ option_or x y
found_or a b r x y is one other =
    ap code_found is
    ∙ (found_first a b
    ∙ (ap (λ (o : Option (List ℕ)). option_or o (code_found b)) one ∙ ap (option_or x) other))
