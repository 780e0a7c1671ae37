-- The programs of a model as code for it.
use Rattle.std.specs.Prelude.{◌≡◌}
use Rattle.dv_bag.specs.declared.state.State.{State}
use Rattle.dv_code.specs.Shape.{Fits}
use Rattle.law_compiled.specs.Behaviours.{behaviour_by}
use Rattle.dv_devs.specs.Behaviour.{Behaviour}
use Rattle.dv_eval.specs.Scope.{scope_of}
use Rattle.dv_gen.specs.ModelCode.{phase_codes}
use Rattle.dv_gen.specs.Resolution.{tables_of}
use Rattle.dv_syntax.specs.Trees.{AtomicTree}
use Rattle.dv_coded.specs.declared.programs.Programs.{Programs}

-- their behaviour
abbrev pub behaviour_of : Programs → Behaviour
behaviour_of p = behaviour_by p.code.phases.items

-- the states that they take
abbrev pub TakesState : Programs → State → Type 0
TakesState p s = Fits p.code.tables.value.slots s.variables

-- they are those of an atomic model
pub record AreProgramsOf (m : AtomicTree) (p : Programs) : Type 0 where
  pub tables : p.code.tables.value ≡ tables_of (scope_of m)
  pub phases : p.code.phases.items ≡ phase_codes m
