use Rattle.dv_link.proofs.Relays.{puts}
use Rattle.dv_link.proofs.link.Link.put.Goals as goal

pub push_as-requires-clause-rule : goal.push_as-requires-clause-rule
push_as-requires-clause-rule g c = (puts _ _ _ _ _ c.requires.link.puts c.requires.next, λ _ _ _ _. tt)
