use Rattle.std.proofs.Common.{◌≡◌, ◌||◌, ◌∷◌, [], List, refl, sym, ap, ap₂, ◌∙◌}
use Rattle.std.specs.Prelude.{Bool}
use Rattle.std.specs.List.{list_any}
use Rattle.std.proofs.lemmas.List.{take_all}
use Rattle.std.proofs.lemmas.List.Folds.{list_any-append, list_any_at, list_any_more}
use Rattle.dv_bag.specs.declared.entry.Entry.{Entry}
use Rattle.dv_written.specs.Faults.{is_fault}
use Rattle.dv_merge.specs.Spans.{entries_of}
use Rattle.dv_merge.proofs.part_refs.PartRefs.has_fault.Goals as goal

abbrev test : Entry → Bool
test e = is_fault e.what

-- an entry of a span is one of all
any_of_spans : (spans : List (List Entry)) → list_any test (entries_of spans) ≡ list_any (list_any test) spans
any_of_spans [] = refl
any_of_spans (span ∷ spans) =
    list_any-append test span (entries_of spans) ∙ ap (λ (b : Bool). list_any test span || b) (any_of_spans spans)

pub returns-then-has_fault : goal.returns-then-has_fault
returns-then-has_fault g c =
    let spans = c.spans-spans.result.now in
    let faulted = ap (list_any test) (sym c.span-item.is) ∙ (sym c.has_fault.ensures ∙ c.if-has_fault.true) in
    sym (ap (list_any test) (sym c.spans-spans.ensures)
    ∙ (any_of_spans spans
    ∙ list_any_at (list_any test) spans c.loop-span.span-index c.span-item.result c.loop-span-test.true faulted))

pub loop-span-preserved : goal.loop-span-preserved
loop-span-preserved g c =
    list_any_more (list_any test) c.spans-spans.result.now c.loop-span.span-index c.span-item.result c.loop-span-test.true
    ∙ ap₂ (λ (a b : Bool). a || b) c.loop-span.invariant
    (ap (list_any test) (sym c.span-item.is) ∙ (sym c.has_fault.ensures ∙ c.if-has_fault.false))

pub returns : goal.returns
returns g c =
    let spans = c.spans-spans.result.now in
    sym (ap (list_any test) (sym c.spans-spans.ensures)
    ∙ (any_of_spans spans
    ∙ (ap (list_any (list_any test)) (sym (take_all c.loop-span.span-index spans c.loop-span-test.false)) ∙ c.loop-span.invariant)))
