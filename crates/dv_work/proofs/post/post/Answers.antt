use Rattle.dv_work.proofs.Sitting.{emptied_holds, emptied_sits, emptied_told}
use Rattle.dv_work.proofs.post.post.Goals as goal

pub returns-in_err-post-clause-sits : goal.returns-in_err-post-clause-sits
returns-in_err-post-clause-sits g c =
    emptied_sits g.N.OfJob.job g.P.LogicalProcess.state g.P.LogicalProcess.handed g.P.LogicalProcess.valid c.args.floor.now.links.now
    c.args.seat.now c.requires c.piece-piece.new.self c.piece-piece.ensures.moved

pub returns-in_err-post-clause-told : goal.returns-in_err-post-clause-told
returns-in_err-post-clause-told g c =
    emptied_told g.N.OfJob.job g.P.LogicalProcess.state g.P.LogicalProcess.handed g.P.LogicalProcess.valid c.args.floor.now.links.now
    c.args.seat.now c.requires c.piece-piece.new.self c.piece-piece.ensures.moved

pub returns-in_err-post-clause-put : goal.returns-in_err-post-clause-put
returns-in_err-post-clause-put g c =
    emptied_holds g.N.OfJob.job g.P.LogicalProcess.state g.P.LogicalProcess.handed g.P.LogicalProcess.valid c.args.floor.now.links.now
    c.args.seat.now c.requires c.piece-piece.new.self c.piece-piece.ensures.moved

pub returns-clause-sits : goal.returns-clause-sits
returns-clause-sits g c =
    emptied_sits g.N.OfJob.job g.P.LogicalProcess.state g.P.LogicalProcess.handed g.P.LogicalProcess.valid c.args.floor.now.links.now
    c.args.seat.now c.requires c.piece-piece.new.self c.piece-piece.ensures.moved

pub returns-clause-told : goal.returns-clause-told
returns-clause-told g c =
    emptied_told g.N.OfJob.job g.P.LogicalProcess.state g.P.LogicalProcess.handed g.P.LogicalProcess.valid c.args.floor.now.links.now
    c.args.seat.now c.requires c.piece-piece.new.self c.piece-piece.ensures.moved

pub returns-clause-put : goal.returns-clause-put
returns-clause-put g c =
    emptied_holds g.N.OfJob.job g.P.LogicalProcess.state g.P.LogicalProcess.handed g.P.LogicalProcess.valid c.args.floor.now.links.now
    c.args.seat.now c.requires c.piece-piece.new.self c.piece-piece.ensures.moved
