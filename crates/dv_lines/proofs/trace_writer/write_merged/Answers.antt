use Rattle.std.proofs.Common.{ℕ, List, ◌++◌, ap}
use Rattle.std.proofs.lemmas.Result.{on_err_weaker}
use Rattle.dv_text.specs.Writing.{StopsShort}
use Rattle.dv_text.proofs.Taking.{AppendsBeginning-after, AppendsBeginning-short, OnErr-always, TakesFront-left, TakesFront-then}
use Rattle.dv_lines.proofs.Spans.{span_failed, span_passed, spans_done}
use Rattle.dv_lines.proofs.trace_writer.write_merged.Goals as goal

pub returns-in_err-outer-clause-err : goal.returns-in_err-outer-clause-err
returns-in_err-outer-clause-err g c =
    OnErr-always _
    (span_failed c.args.words.now c.spans-spans.result.now c.loop-span.span-index c.span-item.result c.loop-span.outer.now
    c.loop-span-test.true c.span-item.is c.loop-span.lines c.loop-span.invariant c.in_err-outer.ensures.err)

pub loop-span-preserved : goal.loop-span-preserved
loop-span-preserved g c =
    span_passed c.args.words.now c.spans-spans.result.now c.loop-span.span-index c.span-item.result c.loop-span.outer.now
    c.loop-span-test.true c.span-item.is c.loop-span.lines c.loop-span.invariant c.write_span.new.lines c.in_ok-outer.outer.now
    c.in_ok-outer.ensures.ok

pub returns-in_err-write_groups-clause-err : goal.returns-in_err-write_groups-clause-err
returns-in_err-write_groups-clause-err g c =
    let left = spans_done c.args.words.now c.spans-spans.result.now c.loop-span.span-index c.loop-span.outer.now c.loop-span-test.false in
    OnErr-always _
    (AppendsBeginning-after (TakesFront-left (ap (λ (t : List ℕ). c.loop-span.lines ++ t) left) c.loop-span.invariant)
    c.in_err-write_groups.ensures.err)

pub returns-clause-err : goal.returns-clause-err
returns-clause-err g c =
    let left = spans_done c.args.words.now c.spans-spans.result.now c.loop-span.span-index c.loop-span.outer.now c.loop-span-test.false in
    let taken = TakesFront-then (TakesFront-left (ap (λ (t : List ℕ). c.loop-span.lines ++ t) left) c.loop-span.invariant)
    c.in_ok-write_groups.ensures.ok in
    on_err_weaker c.hand_over.result
    (λ (p : StopsShort (g.W.Write.contents c.write_groups.new.writer)
    (g.W.Write.contents c.hand_over.new.writer) c.as_bytes.result.now). AppendsBeginning-after taken
    (AppendsBeginning-short (rw c.as_bytes.ensures at p))) c.hand_over.ensures.err
