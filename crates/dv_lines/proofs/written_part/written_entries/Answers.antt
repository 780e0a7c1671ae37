use Rattle.std.proofs.Common.{◌++◌, ◌∷◌, [], List, sym, ap, ap₂, ◌∙◌}
use Rattle.std.proofs.lemmas.List.{append-nil, append_assoc, nil_from_length}
use Rattle.std.specs.Slice.Iter.{iter_rest}
use Rattle.dv_bag.specs.Part.{PartOf}
use Rattle.dv_bag.specs.declared.entry.Entry.{Entry}
use Rattle.dv_bag.specs.declared.entry.Outer.{Outer}
use Rattle.dv_lines.proofs.written_part.written_entries.Goals as goal

pub loop-entry-preserved : goal.loop-entry-preserved
loop-entry-preserved g c =
    let before = c.loop-entry.written in
    let rest = iter_rest c.next.new.self in
    let pushed = c.in_ok-push_entry.ensures in (
      ap (λ (p : PartOf). p.entries ++ rest) pushed
          ∙ append_assoc before.entries (c.in-Some.entry.now ∷ []) rest
          ∙ ap (λ (es : List Entry). before.entries ++ es) (sym c.in-Some.ensures.steps)
          ∙ c.loop-entry.invariant.0,
      ap (λ (p : PartOf). p.outer) pushed ∙ c.loop-entry.invariant.1,
    )

pub returns : goal.returns
returns g c =
    let written = c.loop-entry.written in
    let none = nil_from_length (iter_rest c.loop-entry.entry-iterator) c.in-None.ensures.steps.0 in
    ap₂ (λ (es : List Entry) (os : List Outer). record { entries = es; outer = os })
    (sym (append-nil written.entries) ∙ ap (λ (es : List Entry). written.entries ++ es) (sym none) ∙ c.loop-entry.invariant.0)
    c.loop-entry.invariant.1
