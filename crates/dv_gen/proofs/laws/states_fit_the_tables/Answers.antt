use Rattle.dv_gen.proofs.FittingStates.{states_fit, tables_are_small}
use Rattle.dv_gen.proofs.laws.states_fit_the_tables.Goals as goal

pub returns-clause-fits : goal.returns-clause-fits
returns-clause-fits c = states_fit

pub returns-clause-small : goal.returns-clause-small
returns-clause-small c = tables_are_small
