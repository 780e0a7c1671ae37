use Rattle.std.proofs.Common.{◌++◌, ◌∷◌, [], List, sym, ap, ap₂, ◌∙◌}
use Rattle.std.proofs.lemmas.List.{append-nil, append_assoc, nil_from_length}
use Rattle.std.specs.Slice.Iter.{iter_rest}
use Rattle.dv_bag.specs.Part.{PartOf}
use Rattle.dv_bag.specs.declared.entry.Entry.{Entry}
use Rattle.dv_bag.specs.declared.entry.Outer.{Outer}
use Rattle.dv_lines.proofs.written_part.written_part.Goals as goal

pub loop-line-preserved : goal.loop-line-preserved
loop-line-preserved g c =
    let before = c.loop-line.written in
    let rest = iter_rest c.next.new.self in
    let pushed = c.in_ok-push_outer.ensures.ok in (
      ap (λ (p : PartOf). p.outer ++ rest) pushed
          ∙ append_assoc before.outer (c.in_ok-clone.field-0 ∷ []) rest
          ∙ ap (λ (o : Outer). before.outer ++ o ∷ rest) c.in_ok-clone.ensures.cases
          ∙ ap (λ (os : List Outer). before.outer ++ os) (sym c.in-Some.ensures.steps)
          ∙ c.loop-line.invariant.0,
      ap (λ (p : PartOf). p.entries) pushed ∙ c.loop-line.invariant.1,
    )

pub returns : goal.returns
returns g c =
    let written = c.loop-line.written in
    let none = nil_from_length (iter_rest c.loop-line.line-iterator) c.in-None.ensures.steps.0 in
    ap₂ (λ (es : List Entry) (os : List Outer). record { entries = es; outer = os })
    c.loop-line.invariant.1
    (sym (append-nil written.outer) ∙ ap (λ (os : List Outer). written.outer ++ os) (sym none) ∙ c.loop-line.invariant.0)
