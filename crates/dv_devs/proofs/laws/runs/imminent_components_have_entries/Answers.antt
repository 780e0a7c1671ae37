use Rattle.dv_devs.proofs.Stretches.{imminent_has_entry_at}
use Rattle.dv_devs.proofs.laws.runs.imminent_components_have_entries.Goals as goal

pub returns : goal.returns
returns g c = imminent_has_entry_at
