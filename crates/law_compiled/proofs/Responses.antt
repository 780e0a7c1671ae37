-- What an external rule of a behaviour leaves where it goes to a phase.
use Rattle.std.proofs.Common.{◌≡◌, ℕ, true, Option, Some, None, Result, Ok, Err, refl}
use Rattle.dv_bag.specs.declared.fault.Fault.{Fault}
use Rattle.dv_bag.specs.declared.state.Effect.{Effect}
use Rattle.dv_devs.specs.Behaviour.{Change, state_by_goto}
use Rattle.law_accepted.specs.Fitting.{in_phase}
use Rattle.law_compiled.specs.Behaviours.{change_of}

-- it is the state of an effect, in the phase of the effect's goto
pub record Goes (effect : Result Effect Fault) (c : Change) : Type 0 where
  pub left : Effect
  pub index : ℕ
  pub is : effect ≡ Ok left
  pub to : left.goto ≡ Some index
  pub state : c.state ≡ in_phase left.state index

by_goto : (e : Effect) (to : Option ℕ) (c : Change) → e.goto ≡ to → state_by_goto e.state to ≡ c → c.goes ≡ true → Goes (Ok e) c
by_goto e None c same is goes = absurd (cc)
by_goto e (Some index) c same is goes = record { left = e; index = index; is = refl; to = same; state = cc }

pub goes_by_effect : (effect : Result Effect Fault) (c : Change) → change_of effect ≡ Ok c → c.goes ≡ true → Goes effect c
goes_by_effect (Ok e) c is goes = by_goto e e.goto c refl (cc) goes
goes_by_effect (Err f) c is goes = absurd (cc)
