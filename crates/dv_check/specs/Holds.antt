-- Holds that never fault.
use Rattle.std.specs.Prelude.{◌≡◌, false, Option}
use Rattle.dv_syntax.specs.Trees.{Expression}
use Rattle.dv_bag.specs.declared.state.State.{State}
use Rattle.dv_eval.specs.Scope.{Scope}
use Rattle.dv_eval.specs.Meaning.{hold_of}
use Rattle.dv_check.specs.Rules.{is_fault}

-- the ticks fault in no state, for any meaning of the names
abbrev pub NeverFaults : Option Expression → Type 0
NeverFaults ticks = (scope : Scope) (s : State) → is_fault (hold_of scope ticks s) ≡ false
