use Rattle.std.proofs.Common.{◌≡◌, List, false, sym, ap, ◌∙◌, subst}
use Rattle.std.specs.List.{All}
use Rattle.std.proofs.lemmas.List.{take_all}
use Rattle.std.proofs.lemmas.List.Elements.{All-more}
use Rattle.dv_time.specs.Time.{is_before}
use Rattle.dv_bag.specs.declared.entry.Entry.{Entry}
use Rattle.dv_bag.specs.declared.entry.Outer.{Outer}
use Rattle.dv_lines.specs.Spans.{is_first_before}
use Rattle.dv_lines.proofs.trace_writer.is_none_after.Goals as goal

pub loop-entry-preserved : goal.loop-entry-preserved
loop-entry-preserved g c =
    let first = c.in-Some.first.now.time in
    let e = c.entry-item.result in
    All-more (λ (x : Entry). is_before first x.time ≡ false) c.args.entries.now c.loop-entry.entry-index e c.loop-entry-test.true
    c.loop-entry.invariant
    (ap (λ (x : Entry). is_before first x.time) (sym c.entry-item.is)
    ∙ (ap (is_before first) (sym c.time.ensures) ∙ (sym c.is_before.ensures.order ∙ c.if-is_before.false)))

pub returns : goal.returns
returns g c = λ all.
    let es = c.args.entries.now in
    let first = c.in-Some.first.now.time in
    let passed = subst (λ (xs : List Entry). All (λ (e : Entry). is_before first e.time ≡ false) xs)
    (take_all c.loop-entry.entry-index es c.loop-entry-test.false) c.loop-entry.invariant in
    subst (λ (os : List Outer). All (λ (e : Entry). is_first_before os e.time ≡ false) es) (sym c.in-Some.ensures.cases.0) passed
