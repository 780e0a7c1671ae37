-- Tables of responses: after some of the holds a phase has what it has of all.
use Rattle.std.proofs.Common.{◌≡◌, ℕ, Bool, true, false, ◌==◌, cond, eqb, if◌then◌else◌, is_some, List, [], ◌∷◌, ◌++◌, Option}
use Rattle.std.proofs.Common.{Some, None, refl, sym, ap, ◌∙◌}
use Rattle.std.specs.Map.{lookup}
use Rattle.std.proofs.lemmas.Bool.{eqb-true}
use Rattle.dv_syntax.specs.Trees.{Expression, HoldTree}
use Rattle.dv_bag.specs.declared.response.Response.{Response}
use Rattle.dv_eval.specs.Scope.{Scope, hold_ticks}
use Rattle.dv_bag.specs.Responses.{ticks_of}
use Rattle.dv_bound.specs.Response.{hold_response}
use Rattle.dv_bound.specs.Soonest.{found_or, with_response}
use Rattle.dv_bound.proofs.Names.{eqb-swap}

-- what is found of a phase stands before what comes later
found_if_there : (o : Option Response) (b : Bool) (one other : Option ℕ) → is_some o ≡ true
    → found_or o other ≡ found_or o (if b then one else other)
found_if_there None b one other e = absurd (cc)
found_if_there (Some r) b one other e = refl

-- another phase has what it had, and what is there of the phase stays
kept : (entries : List (ℕ × Response)) (phase q : ℕ) (b : Bool) (one other : Option ℕ) → eqb phase q ≡ b
    → is_some (lookup (eqb phase) entries) ≡ true
    → found_or (lookup (eqb q) entries) other ≡ found_or (lookup (eqb q) entries) (if b then one else other)
kept entries phase q true one other same there =
    let there_too = ap (λ n. is_some (lookup (eqb n) entries)) (sym (eqb-true phase q same)) ∙ there in
    found_if_there (lookup (eqb q) entries) true one other there_too
kept entries phase q false one other apart there = refl

-- one phase more goes last
added_if : (b : Bool) (r : Response) (other : Option ℕ) → found_or (cond b (Some r) None) other ≡ (if b then ticks_of r else other)
added_if true r other = refl
added_if false r other = refl

past_if : (b : Bool) (x r : Response) (entries : List (ℕ × Response)) (phase q : ℕ) (other : Option ℕ)
    → found_or (lookup (eqb q) (entries ++ (phase, r) ∷ [])) other
    ≡ found_or (lookup (eqb q) entries) (if eqb phase q then ticks_of r else other)
    → found_or (cond b (Some x) (lookup (eqb q) (entries ++ (phase, r) ∷ []))) other
    ≡ found_or (cond b (Some x) (lookup (eqb q) entries)) (if eqb phase q then ticks_of r else other)
past_if true x r entries phase q other later = refl
past_if false x r entries phase q other later = later

added_last : (entries : List (ℕ × Response)) (phase q : ℕ) (r : Response) (other : Option ℕ)
    → found_or (lookup (eqb q) (entries ++ (phase, r) ∷ [])) other
    ≡ found_or (lookup (eqb q) entries) (if eqb phase q then ticks_of r else other)
added_last [] phase q r other = ap (λ b. found_or (cond b (Some r) None) other) (eqb-swap q phase) ∙ added_if (eqb phase q) r other
added_last (e ∷ entries) phase q r other = past_if (eqb q e.0) e.1 r entries phase q other (added_last entries phase q r other)

-- after one phase more
found_after : (entries : List (ℕ × Response)) (phase q : ℕ) (r : Response) (other : Option ℕ)
    → found_or (lookup (eqb q) (with_response entries phase r)) other
    ≡ found_or (lookup (eqb q) entries) (if eqb phase q then ticks_of r else other)
found_after entries phase q r other = by (is_some (lookup (eqb phase) entries)) refl
  where
    by : (b : Bool) → is_some (lookup (eqb phase) entries) ≡ b
        → found_or (lookup (eqb q) (if b then entries else entries ++ (phase, r) ∷ [])) other
        ≡ found_or (lookup (eqb q) entries) (if eqb phase q then ticks_of r else other)
    by true there = kept entries phase q (eqb phase q) (ticks_of r) other refl there
    by false absent = added_last entries phase q r other

response_if : (scope : Scope) (b : Bool) (one other : Option Expression)
    → hold_response scope (if b then one else other) ≡ (if b then hold_response scope one else hold_response scope other)
response_if scope true one other = refl
response_if scope false one other = refl

-- after one hold more the table and the holds that are left say of each phase what they said before
pub found_next : (scope : Scope) (entries : List (ℕ × Response)) (h : HoldTree) (holds : List HoldTree) (r : Response) (q : ℕ)
    → ticks_of r ≡ hold_response scope h.ticks
    → found_or (lookup (eqb q) (with_response entries h.phase.number r)) (hold_response scope (hold_ticks q holds))
    ≡ found_or (lookup (eqb q) entries) (hold_response scope (hold_ticks q (h ∷ holds)))
found_next scope entries h holds r q is =
    let later = hold_response scope (hold_ticks q holds) in
    let same = h.phase.number == q in
    found_after entries h.phase.number q r later
    ∙ ap (λ o. found_or (lookup (eqb q) entries) (if same then o else later)) is
    ∙ ap (found_or (lookup (eqb q) entries)) (sym (response_if scope same h.ticks (hold_ticks q holds)))

pub with_response-absent : (entries : List (ℕ × Response)) (phase : ℕ) (r : Response) → is_some (lookup (eqb phase) entries) ≡ false
    → with_response entries phase r ≡ entries ++ (phase, r) ∷ []
with_response-absent entries phase r e = ap (λ b. if b then entries else entries ++ (phase, r) ∷ []) e

-- what is not there is nothing
pub none_from_is_some : (o : Option Response) → is_some o ≡ false → o ≡ None
none_from_is_some None e = refl
none_from_is_some (Some r) e = absurd (cc)
