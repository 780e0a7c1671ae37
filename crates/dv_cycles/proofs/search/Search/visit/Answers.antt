use Rattle.std.proofs.Common.{◌≡◌, ◌+◌, ◌<◌, [], ◌∷◌, ◌++◌, ℕ, length, set, ap, arith, ◌∙◌}
use Rattle.std.proofs.lemmas.List.{length_push, length-set}
use Rattle.dv_cycles.specs.Search.{new_count}
use Rattle.dv_cycles.specs.declared.search.Mark.TheVariants.{OnPath}
use Rattle.dv_cycles.specs.declared.search.Segment.{Segment}
use Rattle.dv_cycles.proofs.Lists.{visit_lists}
use Rattle.dv_cycles.proofs.Marks.{new_count_visited}
use Rattle.dv_cycles.proofs.search.Search.visit.Goals as goal

pub returns-clause-search : goal.returns-clause-search
returns-clause-search c =
    let s = c.args.self.now in
    let graph = c.args.graph.now in
    let n : ℕ = c.args.node in
    let h = c.requires.search in
    let own : Segment = record { first_node = c.len.result; first_edge = c.len-2.result } in
    let segments : c.push.new.self.items ≡ s.segments.items ++ own ∷ [] = c.in_ok-push.ensures.items in
    let pending = c.in_ok-extend_from_slice.ensures.items ∙ ap (λ xs. s.pending.items ++ xs) c.targets.ensures in
    let marked : n < length s.marks.items = omega (arith, h.marked, c.requires.node) in
    let longer : length c.push.new.self.items ≡ length s.segments.items + 1 = ap length segments ∙ length_push s.segments.items own in
    let fewer : new_count (set s.marks.items n (OnPath c.len-3.result)) + 1 ≡ new_count s.marks.items =
    new_count_visited s.marks.items n c.len-3.result marked c.requires.new in
    record {
      marked = length-set s.marks.items n (OnPath c.len-3.result) ∙ h.marked;
      counted = omega (arith, h.counted);
      state = visit_lists graph s h.state c.requires.graph n c.requires.node marked c.requires.new c.requires.led_to
          c.len-3.result c.len.result c.len-2.result c.push-2.new.self.items c.extend_from_slice.new.self.items c.push.new.self.items
          (c.len-3.ensures ∙ s.path.ok.0) (c.len.ensures ∙ s.path.ok.0) (c.len-2.ensures ∙ s.pending.ok.0)
          c.in_ok-push-2.ensures.items pending segments;
    }
