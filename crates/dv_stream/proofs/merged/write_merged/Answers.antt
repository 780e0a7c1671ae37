use Rattle.std.proofs.Common.{sym, subst}
use Rattle.dv_time.specs.Time.{rank}
use Rattle.dv_bag.specs.Part.{IsByTime}
use Rattle.dv_board.specs.Jobs.{trace}
use Rattle.dv_conservative.specs.Flat.{whole}
use Rattle.dv_text.proofs.Taking.{OnErr-always}
use Rattle.dv_stream.proofs.Writing.{falters, falters_at_once, goes_on}
use Rattle.dv_stream.proofs.merged.write_merged.Goals as goal

-- where nothing was written
pub returns-in_err-piece-clause-err : goal.returns-in_err-piece-clause-err
returns-in_err-piece-clause-err g c =
    let job = g.J.PlannedJob.means c.args.job.now in
    OnErr-always _ (falters_at_once job c.args.lines.now (g.W.Write.contents c.args.writer.now) c.args.before c.args.mark
    c.requires.order c.requires.within)

pub write_piece-requires : goal.write_piece-requires
write_piece-requires g c =
    let job = g.J.PlannedJob.means c.args.job.now in
    let from = c.args.before.mark in
    let is = c.in_ok-piece.ensures.whole job.owner (trace job from c.args.mark) c.requires.pieces in
    record {
      by_time = subst IsByTime (sym is)
          (c.a_trace_is_its_pieces.ensures.by_time job.limit (whole job.flat) job.outside (rank job.limit from)
          (rank job.limit c.args.mark) c.requires.order);
    }

pub returns-clause-ok : goal.returns-clause-ok
returns-clause-ok g c =
    let job = g.J.PlannedJob.means c.args.job.now in
    let is = c.in_ok-piece.ensures.whole job.owner (trace job c.args.before.mark c.args.mark) c.requires.pieces in
    goes_on job c.args.lines.now (g.W.Write.contents c.args.writer.now) (g.W.Write.contents c.write_piece.new.writer) c.args.before
    c.args.mark c.in_ok-piece.piece is c.requires.order c.requires.of_run c.write_piece.result c.write_piece.ensures.text
    c.write_piece.ensures.mark c.write_piece.ensures.faults

pub returns-clause-err : goal.returns-clause-err
returns-clause-err g c =
    let job = g.J.PlannedJob.means c.args.job.now in
    let is = c.in_ok-piece.ensures.whole job.owner (trace job c.args.before.mark c.args.mark) c.requires.pieces in
    falters job c.args.lines.now (g.W.Write.contents c.args.writer.now) (g.W.Write.contents c.write_piece.new.writer) c.args.before
    c.args.mark c.in_ok-piece.piece is c.requires.order c.requires.within c.write_piece.result c.write_piece.ensures.err
