-- References to programs, as code of a model.
use Rattle.dv_bag.specs.declared.state.State.{State}
use Rattle.dv_devs.specs.Behaviour.{Behaviour}
use Rattle.dv_coded.specs.Models.{TakesState, behaviour_of}
use Rattle.dv_coded.specs.declared.lent.Lent.{Lent}

abbrev pub behaviour_of_lent : Lent → Behaviour
behaviour_of_lent l = behaviour_of l.programs.now

abbrev pub lent_takes : Lent → State → Type 0
lent_takes l s = TakesState l.programs.now s
