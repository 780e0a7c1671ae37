use Rattle.std.proofs.Common.{◌≡◌, ◌+◌, ◌-◌, ◌<◌, ◌≤◌, length, take, sym, subst, ap, arith, ◌∙◌}
use Rattle.std.proofs.lemmas.List.{get_or_read}
use Rattle.dv_cycles.specs.Search.{last_segment, mark_at, nowhere, segment_at, settled, state_of}
use Rattle.dv_cycles.specs.declared.search.Segment.{Segment}
use Rattle.dv_cycles.proofs.Lists.{finish_lists}
use Rattle.dv_cycles.proofs.search.Search.finish.Goals as goal

pub returns-clause-search : goal.returns-clause-search
returns-clause-search c = λ graph h.
    let s = c.args.self.now in
    let last : Segment = last_segment (state_of s) in
    let read : Segment = c.index.result.now in
    let marks = c.settle.new.marks in
    let path = c.settle.new.path.items in
    let fewer = c.truncate.new.self in
    let count : c.len-last.result ≡ length s.segments.items = c.len-last.ensures ∙ s.segments.ok.0 in
    let size : s.segments.len ≡ length s.segments.items = s.segments.ok.0 in
    let pending : s.pending.len ≡ length s.pending.items = s.pending.ok.0 in
    let begun : 0 < length s.segments.items = omega (arith, c.requires.begun) in
    let followed : length s.pending.items ≤ last.first_edge = omega (arith, c.requires.followed) in
    let first : read.first_node ≡ last.first_node =
    ap (λ (x : Segment). x.first_node) (get_or_read s.segments.items (c.len-last.result - 1) read (omega arith) c.index.ensures nowhere)
    ∙ ap (λ n. (segment_at s.segments.items (n - 1)).first_node) count in
    let rest : fewer.items ≡ take (length s.segments.items - 1) s.segments.items =
    subst (λ n. fewer.items ≡ take (n - 1) s.segments.items) count c.truncate.ensures.items in
    let shorter : length fewer.items + 1 ≡ length s.segments.items = omega (arith, c.truncate.ensures.len, fewer.ok.0) in
    record {
      marked = sym marks.ok.0 ∙ c.settle.ensures.nodes ∙ s.marks.ok.0 ∙ h.marked;
      counted = omega (arith, h.counted, c.settle.ensures.new_count);
      state = finish_lists graph s h.state marks.items path fewer.items begun followed
          (λ v. subst (λ n. mark_at marks.items v ≡ settled s.components n (mark_at s.marks.items v)) first (c.settle.ensures.marks v))
          (subst (λ n. path ≡ take n s.path.items) first c.settle.ensures.path) rest;
    }
