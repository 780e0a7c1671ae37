use Rattle.dv_devs.proofs.Fits.{states_fit}
use Rattle.dv_devs.proofs.laws.fits.states_stay_fit.Goals as goal

pub returns : goal.returns
returns g c = states_fit
