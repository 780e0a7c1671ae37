use Rattle.law_accepted.proofs.Fitting.{start_state_fits}
use Rattle.law_accepted.proofs.laws.start_states_fit.Goals as goal

pub returns : goal.returns
returns c = start_state_fits
