use Rattle.std.proofs.Common.{◌≤◌, IfSome, sym, subst}
use Rattle.std.specs.declared.result.Result.TheVariants.{Ok, Err}
use Rattle.dv_time.specs.Time.{IsOfRun, end_of, rank}
use Rattle.dv_bag.specs.Part.{IsByTime}
use Rattle.dv_merge.specs.Whole.{ArePartsOf}
use Rattle.dv_board.specs.Clocks.{IsNoLater}
use Rattle.dv_board.specs.Jobs.{trace}
use Rattle.dv_conservative.specs.Flat.{whole}
use Rattle.dv_text.proofs.Taking.{OnErr-always}
use Rattle.dv_stream.proofs.Writing.{falters, goes_on}
use Rattle.dv_stream.proofs.news.write_known.Goals as goal

pub write_piece-requires : goal.write_piece-requires
write_piece-requires g c =
    let job = g.N.OfJob.job in
    let from = c.args.before.mark in
    let some = c.in-Ok-Some in
    let parts = subst (λ o. IfSome o (λ k. ArePartsOf job.owner (trace job from k.1) k.0.items)) some.field-0-is some.ensures.pieces in
    let is = c.in-Ok.ensures.whole job.owner (trace job from some.mark) parts in
    let order = subst (λ o. IfSome o (λ k. IsNoLater job from k.1)) some.field-0-is some.ensures.order in
    record {
      by_time = subst IsByTime (sym is)
          (c.a_trace_is_its_pieces.ensures.by_time job.limit (whole job.flat) job.outside (rank job.limit from)
          (rank job.limit some.mark) order);
    }

pub returns-in_err-written-clause-err : goal.returns-in_err-written-clause-err
returns-in_err-written-clause-err g c =
    let job = g.N.OfJob.job in
    let from = c.args.before.mark in
    let some = c.in-Ok-Some in
    let parts = subst (λ o. IfSome o (λ k. ArePartsOf job.owner (trace job from k.1) k.0.items)) some.field-0-is some.ensures.pieces in
    let is = c.in-Ok.ensures.whole job.owner (trace job from some.mark) parts in
    let order = subst (λ o. IfSome o (λ k. IsNoLater job from k.1)) some.field-0-is some.ensures.order in
    let within = subst (λ o. IfSome o (λ k. rank job.limit k.1 ≤ end_of job.limit job.horizon)) some.field-0-is some.ensures.within in
    OnErr-always _ (falters job c.args.lines.now (g.W.Write.contents c.args.writer.now) (g.W.Write.contents c.write_piece.new.writer)
    c.args.before some.mark c.in-Ok.piece is order within (Err c.in_err-written.field-0.0) c.in_err-written.ensures.err)

pub returns-clause-some : goal.returns-clause-some
returns-clause-some g c =
    let job = g.N.OfJob.job in
    let from = c.args.before.mark in
    let some = c.in-Ok-Some in
    let parts = subst (λ o. IfSome o (λ k. ArePartsOf job.owner (trace job from k.1) k.0.items)) some.field-0-is some.ensures.pieces in
    let is = c.in-Ok.ensures.whole job.owner (trace job from some.mark) parts in
    let order = subst (λ o. IfSome o (λ k. IsNoLater job from k.1)) some.field-0-is some.ensures.order in
    let of_run = subst (λ o. IfSome o (λ k. IsOfRun job.limit k.1)) some.field-0-is some.ensures.of_run in
    goes_on job c.args.lines.now (g.W.Write.contents c.args.writer.now) (g.W.Write.contents c.write_piece.new.writer) c.args.before
    some.mark c.in-Ok.piece is order of_run (Ok c.in_ok-written.written) c.in_ok-written.ensures.text
    c.in_ok-written.ensures.mark c.in_ok-written.ensures.faults
