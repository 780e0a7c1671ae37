use Rattle.std.proofs.Common.{◌≡◌, List, false, refl, subst}
use Rattle.std.specs.List.{All}
use Rattle.dv_bag.specs.declared.entry.Entry.{Entry}
use Rattle.dv_text.proofs.Taking.{OnErr-always}
use Rattle.dv_lines.specs.Spans.{is_first_before}
use Rattle.dv_lines.proofs.Spans.{text_begins, text_passes}
use Rattle.dv_lines.proofs.trace_writer.write_span.Goals as goal

pub returns-in_err-write_text-clause-err : goal.returns-in_err-write_text-clause-err
returns-in_err-write_text-clause-err g c =
    let none = subst (λ (xs : List Entry). All (λ (e : Entry). is_first_before c.args.outer.now e.time ≡ false) xs)
    c.entries.ensures (c.if-is_none_after.ensures refl) in
    OnErr-always _
    (text_begins c.args.words.now g.N.OfJob.line c.requires c.args.outer.now c.args.span.now c.text.result.now c.text.ensures none _ _
    c.args.lines.now c.in_err-write_text.ensures.err)

pub returns-then-is_none_after-clause-ok : goal.returns-then-is_none_after-clause-ok
returns-then-is_none_after-clause-ok g c =
    let none = subst (λ (xs : List Entry). All (λ (e : Entry). is_first_before c.args.outer.now e.time ≡ false) xs)
    c.entries.ensures (c.if-is_none_after.ensures refl) in
    text_passes c.args.words.now g.N.OfJob.line c.requires c.args.outer.now c.args.span.now c.text.result.now c.text.ensures none _ _
    c.args.lines.now c.write_text.new.lines c.in_ok-write_text.ensures.ok
