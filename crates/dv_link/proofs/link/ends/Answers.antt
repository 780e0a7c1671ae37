use Rattle.dv_link.proofs.Relays.{parts}
use Rattle.dv_link.proofs.link.ends.Goals as goal

pub another-taker-requires-clause-rule : goal.another-taker-requires-clause-rule
another-taker-requires-clause-rule g c = parts _ _ _ _ c.requires.new.1
