use Rattle.dv_link.proofs.Relays.{begins}
use Rattle.dv_link.proofs.link.Link.new.Goals as goal

pub ruled-requires-clause-rule : goal.ruled-requires-clause-rule
ruled-requires-clause-rule g c = begins _
