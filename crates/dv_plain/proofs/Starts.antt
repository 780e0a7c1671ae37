-- A component at 0.0, as code for any model starts it and as the network of a text has it.
use Rattle.std.proofs.Common.{◌≡◌, ℕ, Option, Result, Ok, Err, refl}
use Rattle.dv_bag.specs.declared.fault.Fault.{Fault}
use Rattle.dv_bag.specs.declared.state.State.{State}
use Rattle.dv_eval.specs.Scope.{start_state}
use Rattle.dv_react.specs.Starts.{first_component as first_started, starting}
use Rattle.dv_syntax.specs.Trees.{AtomicTree}
use Rattle.dv_plain.specs.Source.{behaviour_of, first_component, hold_end, start_of}

same_first : (s : State) (next : Result (Option ℕ) Fault) → first_started s next ≡ first_component s next
same_first s (Ok next) = refl
same_first s (Err f) = refl

pub starting-start_of : (limit : ℕ) (m : AtomicTree) → starting limit (behaviour_of m) (start_state m) ≡ start_of limit m
starting-start_of limit m = same_first (start_state m) (hold_end limit (behaviour_of m) 0 (start_state m))
