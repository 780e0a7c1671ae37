use Rattle.std.proofs.Common.{◌≡◌, ℕ, List, Some, eqb, drop, map, ◌+◌, ◌∷◌, below_more, sym, ap, subst, ◌∙◌}
use Rattle.std.specs.Prelude.{slice_get}
use Rattle.std.proofs.lemmas.Option.{get_or_from_slice_get}
use Rattle.dv_bound.specs.Short.{IsShort}
use Rattle.std.specs.Map.{lookup}
use Rattle.std.proofs.lemmas.List.{at_drop_more}
use Rattle.dv_syntax.specs.declared.tree.Hold.{Hold}
use Rattle.dv_syntax.specs.Trees.{hold_of}
use Rattle.dv_eval.specs.Scope.{hold_ticks}
use Rattle.dv_bound.specs.Response.{hold_response}
use Rattle.dv_bound.specs.Soonest.{entries_in, found_or}
use Rattle.dv_bound.proofs.Tables.{found_next}
use Rattle.dv_bound.proofs.lookahead.phase_responses.Goals as goal

pub loop-hold-preserved : goal.loop-hold-preserved
loop-hold-preserved c =
    let at = c.loop-hold in
    let scope = c.args.scope.now in
    let holds = c.args.holds.now in
    let hold = c.hold-item.result in
    let left = drop (at.hold-index + 1) holds in
    let response = λ (phase : ℕ) (hs : List Hold). hold_response scope (hold_ticks phase (map hold_of hs)) in
    let before = λ (phase : ℕ) (hs : List Hold). found_or (lookup (eqb phase) (entries_in at.responses)) (response phase hs) in
    let Shorts : ℕ → Type 0 = λ k.
    (h : Hold) → slice_get holds k ≡ Some h → IsShort (hold_response scope (hold_of h).ticks) in
    let here : Shorts at.hold-index = λ h there.
    let same : hold ≡ h = c.hold-item.is ∙ get_or_from_slice_get holds at.hold-index h hold there in
    subst (λ (x : Hold). IsShort (hold_response scope (hold_of x).ticks)) same
    (subst IsShort c.hold_response.ensures.response c.hold_response.ensures.short) in
    record {
      found = λ phase.
          ap (λ entries. found_or (lookup (eqb phase) entries) (response phase left)) c.in_ok-insert_if_absent.ensures
          ∙ found_next scope (entries_in at.responses) (hold_of hold) (map hold_of left) c.hold_response.result phase
          c.hold_response.ensures.response
          ∙ ap (λ h. before phase (h ∷ left)) c.hold-item.is
          ∙ sym (at_drop_more (before phase) holds at.hold-index hold c.loop-hold-test.true)
          ∙ at.invariant.found phase;
      short = λ k h there below. below_more Shorts at.hold-index (λ j lt x is. at.invariant.short j x is lt) here k below h there;
    }
