use Rattle.dv_work.proofs.Reporting.{entered}
use Rattle.dv_work.proofs.report.enter.Goals as goal

pub returns : goal.returns
returns g c = entered g.N.OfJob.job c.args.rest.now.items c.requires.rest c.piece-piece.result c.piece-piece.ensures.piece
