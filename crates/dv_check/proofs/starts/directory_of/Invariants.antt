use Rattle.std.proofs.Common.{◌≡◌, take}
use Rattle.dv_check.specs.Names.{first_of}
use Rattle.dv_check.specs.Tables.{value_for}
use Rattle.dv_check.specs.Rules.{domain_of_state_variable, number_of_state_variable}
use Rattle.dv_check.proofs.starts.directory_of.Given as goal

abbrev pub invariant-loop-variable : goal.invariant-loop-variable
invariant-loop-variable l =
    value_for l.directory ≡ first_of number_of_state_variable domain_of_state_variable (take l.variable-index l.variables)
