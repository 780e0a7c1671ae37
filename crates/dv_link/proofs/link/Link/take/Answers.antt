use Rattle.dv_link.proofs.Relays.{takes, learns}
use Rattle.dv_link.proofs.link.Link.take.Goals as goal

pub pop_as-requires-clause-rule : goal.pop_as-requires-clause-rule
pop_as-requires-clause-rule g c = (takes _ _ _ c.requires.link.takes, learns _ _ _ c.requires.link.takes)
