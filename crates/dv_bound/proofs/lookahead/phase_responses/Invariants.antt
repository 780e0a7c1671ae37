use Rattle.std.proofs.Common.{◌≡◌, ◌<◌, ℕ, nat_eq, drop, map, Some}
use Rattle.std.specs.Prelude.{slice_get}
use Rattle.std.specs.Map.{lookup}
use Rattle.dv_syntax.specs.Trees.{hold_of}
use Rattle.dv_eval.specs.Scope.{hold_ticks}
use Rattle.dv_bound.specs.Response.{hold_response}
use Rattle.dv_syntax.specs.declared.tree.Hold.{Hold}
use Rattle.dv_bound.specs.Short.{IsShort}
use Rattle.dv_bound.specs.Soonest.{entries_in, found_or}
use Rattle.dv_bound.proofs.lookahead.phase_responses.Given as goal

-- what is found of a phase, and else what the holds that are left say, is what all holds say
abbrev pub invariant-loop-hold : goal.invariant-loop-hold
invariant-loop-hold l = record {
  found : (phase : ℕ)
      → found_or (lookup (nat_eq phase) (entries_in l.responses))
      (hold_response l.scope (hold_ticks phase (map hold_of (drop l.hold-index l.holds))))
      ≡ hold_response l.scope (hold_ticks phase (map hold_of l.holds));
  short : (k : ℕ) (h : Hold) → slice_get l.holds k ≡ Some h → k < l.hold-index → IsShort (hold_response l.scope (hold_of h).ticks);
}
