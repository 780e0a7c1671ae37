use Rattle.std.proofs.Common.{IfSome, sym, subst, arith}
use Rattle.dv_board.specs.Jobs.{trace}
use Rattle.dv_conservative.specs.World.{Job}
use Rattle.dv_merge.specs.Whole.{ArePartsOf}
use Rattle.dv_text.proofs.Taking.{OnErr-always}
use Rattle.dv_stream.specs.Written.{GoesOn}
use Rattle.dv_stream.proofs.Writing.{falters_at_once}
use Rattle.dv_stream.proofs.rounds.write_all.Goals as goal

pub returns-in_err-pieces-clause-err : goal.returns-in_err-pieces-clause-err
returns-in_err-pieces-clause-err g c =
    OnErr-always _ (falters_at_once g.N.OfJob.job c.args.merger.now.lines (g.W.Write.contents c.args.writer.now) c.args.before
    c.args.before.mark (omega arith) c.requires.within)

pub write_merged-requires-clause-pieces : goal.write_merged-requires-clause-pieces
write_merged-requires-clause-pieces g c =
    let job = g.N.OfJob.job in
    let from = c.args.before.mark in
    let parts = subst (λ o. IfSome o (λ k. ArePartsOf job.owner (trace job from k.1) k.0.items)) c.in-Some.is
    c.in_ok-pieces.ensures.pieces in
    subst (λ (j : Job). ArePartsOf j.owner (trace j from c.in-Some.mark) c.in-Some.pieces.items) c.requires.job parts

pub returns-clause-ok : goal.returns-clause-ok
returns-clause-ok g c =
    let contents = g.W.Write.contents in
    subst (λ (j : Job). GoesOn j c.args.merger.now.lines (contents c.args.writer.now) (contents c.write_merged.new.writer) c.args.before
    c.in_ok-written.written) (sym c.requires.job) c.in_ok-written.ensures.ok
