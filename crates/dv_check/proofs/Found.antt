-- What findings keep of lists of refusals.
use Rattle.std.proofs.Common.{◌≡◌, false, List, [], ◌∷◌, ◌++◌, refl, sym, ap, ◌∙◌, Some, is_none}
use Rattle.std.proofs.lemmas.List.Sums.{fold-append}
use Rattle.dv_lex.specs.declared.error.Refusal.{Refusal}
use Rattle.dv_lex.specs.Order.{earlier, first_after}
use Rattle.dv_check.specs.declared.findings.Findings.{Findings}
use Rattle.dv_check.specs.Findings.{with_refusal, with_refusals, nothing_found}
use Rattle.dv_check.specs.Rules.{is_none_left}

-- findings keep the first of what was found and of the refusals
pub first_found : (found : Findings) (rs : List Refusal) → (with_refusals found rs).first ≡ first_after found.first rs
first_found found [] = refl
first_found found (r ∷ rs) = first_found (with_refusal found r) rs

-- what was found is not forgotten
stays : (r : Refusal) (rs : List Refusal) → is_none (with_refusals (record { first = Some r }) rs).first ≡ false
stays r [] = refl
stays r (x ∷ rs) = stays (earlier (Some r) x) rs

-- nothing is found in no refusals alone
pub nothing_in : (rs : List Refusal) → is_none (with_refusals nothing_found rs).first ≡ is_none_left rs
nothing_in [] = refl
nothing_in (r ∷ rs) = stays r rs

-- nor in two lists without refusals, one after the other
pub nothing_in_both : (first second : Findings) (xs ys : List Refusal) → first ≡ with_refusals nothing_found xs
    → second ≡ with_refusals first ys → is_none second.first ≡ is_none_left (xs ++ ys)
nothing_in_both first second xs ys by_first by_second =
    ap (λ f. is_none f.first) (by_second ∙ ap (λ f. with_refusals f ys) by_first ∙ sym (fold-append with_refusal nothing_found xs ys))
    ∙ nothing_in (xs ++ ys)
