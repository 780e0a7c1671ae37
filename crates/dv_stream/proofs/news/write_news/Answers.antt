use Rattle.std.proofs.Common.{◌∙◌, subst}
use Rattle.dv_text.proofs.Taking.{OnErr-always}
use Rattle.dv_stream.specs.Written.{Falters, GoesOn}
use Rattle.dv_stream.proofs.Writing.{begun_from, written_further}
use Rattle.dv_stream.proofs.news.write_news.Goals as goal

pub returns-in_err-written-clause-err : goal.returns-in_err-written-clause-err
returns-in_err-written-clause-err g c =
    let job = g.N.OfJob.job in
    let contents = g.W.Write.contents in
    let old = contents c.loop.writer in
    let new = contents c.write_posted.new.writer in
    OnErr-always _ (begun_from job c.args.merger.now.lines c.a_trace_is_its_pieces.ensures.lines {a = contents c.args.writer.now} {b = old}
    {c = new}
    c.loop.written c.loop.invariant.written
    (subst (λ t. Falters job t old new c.loop.written) c.loop.invariant.tree c.in_err-written.ensures.err))

pub returns-then-is_last-clause-written : goal.returns-then-is_last-clause-written
returns-then-is_last-clause-written g c =
    let job = g.N.OfJob.job in
    let contents = g.W.Write.contents in
    let old = contents c.loop.writer in
    let new = contents c.write_posted.new.writer in
    written_further job c.args.merger.now.lines c.a_trace_is_its_pieces.ensures.lines {a = contents c.args.writer.now} {b = old} {c = new}
    c.loop.written c.loop.invariant.written c.in_ok-written.written
    (subst (λ t. GoesOn job t old new c.loop.written c.in_ok-written.written) c.loop.invariant.tree c.in_ok-written.ensures.ok)

pub loop-preserved : goal.loop-preserved
loop-preserved g c =
    let job = g.N.OfJob.job in
    let contents = g.W.Write.contents in
    let old = contents c.loop.writer in
    let new = contents c.write_posted.new.writer in
    record {
      tree = c.in_ok-written.ensures.tree ∙ c.loop.invariant.tree;
      written =
          written_further job c.args.merger.now.lines c.a_trace_is_its_pieces.ensures.lines {a = contents c.args.writer.now} {b = old}
          {c = new}
          c.loop.written c.loop.invariant.written c.in_ok-written.written
          (subst (λ t. GoesOn job t old new c.loop.written c.in_ok-written.written) c.loop.invariant.tree c.in_ok-written.ensures.ok);
      within = c.in_ok-written.ensures.within;
    }
