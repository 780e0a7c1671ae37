use Rattle.std.proofs.Common.{refl}
use Rattle.dv_check.specs.Rules.{domain_of_state_variable, number_of_state_variable}
use Rattle.dv_check.proofs.Firsts.{first_of_step_plain}
use Rattle.dv_check.proofs.starts.directory_of.Goals as goal

pub loop-variable-preserved : goal.loop-variable-preserved
loop-variable-preserved c =
    first_of_step_plain number_of_state_variable domain_of_state_variable c.args.variables.now c.loop-variable.variable-index _ _
    _ _ _ c.loop-variable-test.true refl refl c.loop-variable.invariant c.in_ok-add.ensures.added
