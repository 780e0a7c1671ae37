use Rattle.std.proofs.Common.{◌≡◌, ◌++◌, ◌∷◌, [], List, length, sym, ap, ◌∙◌, arith}
use Rattle.std.proofs.lemmas.List.{append-nil, append_assoc, at_drop_all}
use Rattle.dv_bag.specs.Bag.{Counts}
use Rattle.dv_bag.specs.Part.{PartOf}
use Rattle.dv_bag.specs.declared.bags.PortBag.{PortBag}
use Rattle.dv_bag.specs.declared.entry.Outer.{Outer}
use Rattle.dv_bag.proofs.PortBags.{port_below}
use Rattle.dv_record.specs.Told.{with_lines}
use Rattle.dv_record.proofs.Lines.{all_lines, held_lines, one_more}
use Rattle.dv_lines.proofs.written_record.push_lines.Goals as goal

pub overflow_cast-held : goal.overflow_cast-held
overflow_cast-held g c =
    let below = port_below (length c.args.values.now) c.loop-held.held-index c.held-held-items.result.now c.held-item.result
    c.held-held-items.ensures.within c.loop-held-test.true in
    record { fits = omega (arith, below, ap (λ (h : PortBag). h.port) c.held-item.is, c.requires) }

pub loop-held-init : goal.loop-held-init
loop-held-init g c =
    let part = c.args.part.now in
    record {
      lines = search;
      grown = ([], ap (λ (os : List Outer). record part { outer = os }) (sym (append-nil part.outer)));
    }

pub loop-held-preserved : goal.loop-held-preserved
loop-held-preserved g c =
    let time = c.args.time in
    let h = c.held-item.result in
    let before = c.loop-held.part in
    let line : Outer = record { time = time; port = h.port; values = c.in_ok-clone.field-0 } in
    let pushed : c.push_outer.new.self ≡ with_lines (line ∷ []) before = c.in_ok-push_outer.ensures.ok in
    let grown = c.loop-held.invariant.grown in
    record {
      lines =
          one_more time (length c.args.values.now) c.loop-held.held-index c.held-held-items.result.now h before.outer
          c.push_outer.new.self.outer
          (c.args.part.now.outer ++ held_lines time c.held-held-items.result.now) c.held-held-items.ensures.within c.loop-held-test.true c.held-item.is
          (ap (λ (p : PartOf). p.outer) pushed
          ∙ ap (λ (v : Counts). before.outer ++ (let o : Outer = record { time = time; port = h.port; values = v } in o) ∷ [])
          c.in_ok-clone.ensures.cases)
          c.loop-held.invariant.lines;
      grown = (
        grown.0 ++ line ∷ [],
        pushed ∙ ap (λ (p : PartOf). with_lines (line ∷ []) p) grown.1
            ∙ ap (λ (os : List Outer). record c.args.part.now { outer = os }) (append_assoc c.args.part.now.outer grown.0 (line ∷ [])),
      );
    }

pub returns-clause-lines : goal.returns-clause-lines
returns-clause-lines g c =
    let time = c.args.time in
    let items = c.held-held-items.result.now in
    let part = c.args.part.now in
    let now = c.loop-held.part in
    let grown = c.loop-held.invariant.grown in
    let held = c.held-held-items.ensures in
    let lines =
    sym (append-nil now.outer)
    ∙ sym (at_drop_all (λ hs. now.outer ++ held_lines time hs) items c.loop-held.held-index (omega arith))
    ∙ c.loop-held.invariant.lines
    ∙ ap (λ (os : List Outer). part.outer ++ os)
    (all_lines time (length c.args.values.now) c.args.values.now items held.all held.within held.order) in
    grown.1 ∙ ap (λ (os : List Outer). record part { outer = os }) (sym (ap (λ (p : PartOf). p.outer) grown.1) ∙ lines)
