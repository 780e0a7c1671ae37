use Rattle.std.proofs.Common.{◌++◌, sym}
use Rattle.std.specs.Io.KnownBytes.{Appends}
use Rattle.std.proofs.lemmas.Result.{on_err_weaker, on_ok_weaker}
use Rattle.dv_text.specs.Writing.{StopsShort}
use Rattle.dv_text.proofs.Taking.{AppendsBeginning-longer, AppendsBeginning-nothing, AppendsBeginning-short, OnErr-always, TakesFront-left}
use Rattle.dv_lines.proofs.Spans.{long_begun, long_written}
use Rattle.dv_lines.proofs.trace_writer.write_text.Goals as goal

pub returns-in_err-hand_over-clause-err : goal.returns-in_err-hand_over-clause-err
returns-in_err-hand_over-clause-err g c =
    OnErr-always _
    (AppendsBeginning-longer c.args.text.now (AppendsBeginning-short (rw c.as_bytes.ensures at c.in_err-hand_over.ensures.err)))

pub returns-then-text-ge-PIECE_LENGTH-clause-ok : goal.returns-then-text-ge-PIECE_LENGTH-clause-ok
returns-then-text-ge-PIECE_LENGTH-clause-ok g c =
    let behind = c.hand_over-then-text-ge-PIECE_LENGTH in
    let a = g.W.Write.contents c.args.writer.now in
    let b = g.W.Write.contents c.hand_over.new.writer in
    let d = g.W.Write.contents behind.new.writer in
    on_ok_weaker behind.result
    (λ (p : Appends b d c.args.text.now). TakesFront-left (sym c.clear.ensures)
    (long_written a b d c.args.lines.now c.args.text.now (rw c.as_bytes.ensures at c.in_ok-hand_over.ensures.ok) p)) behind.ensures.ok

pub returns-then-text-ge-PIECE_LENGTH-clause-err : goal.returns-then-text-ge-PIECE_LENGTH-clause-err
returns-then-text-ge-PIECE_LENGTH-clause-err g c =
    let behind = c.hand_over-then-text-ge-PIECE_LENGTH in
    let a = g.W.Write.contents c.args.writer.now in
    let b = g.W.Write.contents c.hand_over.new.writer in
    let d = g.W.Write.contents behind.new.writer in
    on_err_weaker behind.result
    (λ (p : StopsShort b d c.args.text.now). long_begun a b d c.args.lines.now c.args.text.now
    (rw c.as_bytes.ensures at c.in_ok-hand_over.ensures.ok) p) behind.ensures.err

pub returns-in_err-put-clause-err : goal.returns-in_err-put-clause-err
returns-in_err-put-clause-err g c =
    OnErr-always _ (AppendsBeginning-nothing (g.W.Write.contents c.args.writer.now) (c.args.lines.now ++ c.args.text.now))
