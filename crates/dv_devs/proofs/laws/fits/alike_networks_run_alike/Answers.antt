use Rattle.dv_devs.proofs.Fits.{components_run_alike, emissions_run_alike, parts_run_alike, traces_run_alike}
use Rattle.dv_devs.proofs.laws.fits.alike_networks_run_alike.Goals as goal

pub returns-clause-components : goal.returns-clause-components
returns-clause-components g c fits comes limit net also inputs n alike come =
    components_run_alike fits comes limit net inputs also alike n come

pub returns-clause-emissions : goal.returns-clause-emissions
returns-clause-emissions g c fits comes limit net also inputs n alike come =
    emissions_run_alike fits comes limit net inputs also alike n come

pub returns-clause-trace : goal.returns-clause-trace
returns-clause-trace g c fits comes limit net also inputs n alike come = traces_run_alike fits comes limit net inputs also alike n come

pub returns-clause-part : goal.returns-clause-part
returns-clause-part g c fits comes limit net also inputs who n alike come leaves =
    parts_run_alike fits comes limit net inputs also alike who n come leaves
