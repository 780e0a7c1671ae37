-- The response of a model is as short as those of its holds.
use Rattle.std.proofs.Common.{◌≡◌, ℕ, suc, Bool, true, false, if◌then◌else◌, ◌==◌, List, [], ◌∷◌, fold, map}
use Rattle.std.proofs.Common.{Option, Some, None, refl, arith}
use Rattle.dv_syntax.specs.declared.tree.Hold.{Hold}
use Rattle.dv_syntax.specs.Trees.{AtomicTree, Expression, hold_of}
use Rattle.dv_eval.specs.Scope.{Scope, hold_ticks, scope_of}
use Rattle.dv_time.specs.Time.{earlier}
use Rattle.dv_bound.specs.Response.{external_gotos, hold_response, phase_response, response_of}
use Rattle.dv_bound.specs.Short.{AreShort, IsShort}

earlier_short : (a b : Option ℕ) → IsShort a → IsShort b → IsShort (earlier a b)
earlier_short None b ha hb = hb
earlier_short (Some a) None ha hb = ha
earlier_short (Some a) (Some b) ha hb = omega arith

soonest_short : (response : ℕ → Option ℕ) (start : Option ℕ) (phases : List ℕ) → IsShort start → ((phase : ℕ) → IsShort (response phase))
    → IsShort (fold earlier start (map response phases))
soonest_short response start [] h each = h
soonest_short response start (phase ∷ phases) h each =
    soonest_short response (earlier start (response phase)) phases (earlier_short start (response phase) h (each phase)) each

chosen_short : (scope : Scope) (b : Bool) (one other : Option Expression) → IsShort (hold_response scope one)
    → IsShort (hold_response scope other) → IsShort (hold_response scope (if b then one else other))
chosen_short scope true one other h later = h
chosen_short scope false one other h later = later

phase_short : (scope : Scope) (holds : List Hold) (phase : ℕ) → AreShort scope holds
    → IsShort (hold_response scope (hold_ticks phase (map hold_of holds)))
phase_short scope [] phase each = tt
phase_short scope (h ∷ holds) phase each =
    chosen_short scope ((hold_of h).phase.number == phase) (hold_of h).ticks (hold_ticks phase (map hold_of holds)) (each 0 h refl)
    (phase_short scope holds phase (λ k x there. each (suc k) x there))

pub response_short : (m : AtomicTree) (holds : List Hold) → m.holds ≡ map hold_of holds → AreShort (scope_of m) holds
    → IsShort (response_of m)
response_short m holds same each =
    soonest_short (phase_response m) None (external_gotos m) tt
    (λ phase. rw same (phase_short (scope_of m) holds phase each))
