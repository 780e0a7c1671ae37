use Rattle.std.proofs.Common.{◌≡◌, ◌-◌, ◌<◌, ◌∙◌, length, sym, subst, ap, arith}
use Rattle.std.proofs.lemmas.List.{get_or_read}
use Rattle.dv_cycles.specs.Search.{Reaches, beginning, node_at, nowhere, segment_at, state_of}
use Rattle.dv_cycles.specs.declared.search.Segment.{Segment}
use Rattle.dv_cycles.proofs.Order.{edge_led_to}
use Rattle.dv_cycles.proofs.search.Search.advance.Goals as goal

pub visit-requires-clause-led_to : goal.visit-requires-clause-led_to
visit-requires-clause-led_to c =
    let s = c.loop-self.self in
    let graph = c.args.graph.now in
    let segments : c.len-in-loop-self.result ≡ length s.segments.items = c.len-in-loop-self.ensures ∙ s.segments.ok.0 in
    let pending : c.len-then-len-segment.result ≡ length s.pending.items = c.len-then-len-segment.ensures ∙ s.pending.ok.0 in
    let edges : c.len-in-loop-self-2.result ≡ length s.pending.items = c.len-in-loop-self-2.ensures ∙ s.pending.ok.0 in
    let begun : 0 < length s.segments.items = omega (arith, c.loop-self-test.true, c.len.ensures, s.segments.ok.0) in
    let read : c.index-segment.result.now ≡ segment_at s.segments.items (c.len-in-loop-self.result - 1) =
    get_or_read s.segments.items (c.len-in-loop-self.result - 1) c.index-segment.result.now (omega arith) c.index-segment.ensures nowhere in
    let last : c.index-segment.result.now.first_edge ≡ (segment_at s.segments.items (length s.segments.items - 1)).first_edge =
    ap (λ (x : Segment). x.first_edge) read ∙ ap (λ n. (segment_at s.segments.items (n - 1)).first_edge) segments in
    let edge : (segment_at s.segments.items (length s.segments.items - 1)).first_edge < length s.pending.items =
    omega (arith, last, edges, c.if-len-segment.true) in
    let target : c.index-target.result.now ≡ node_at s.pending.items (length s.pending.items - 1) =
    get_or_read s.pending.items (c.len-then-len-segment.result - 1) c.index-target.result.now (omega arith) c.index-target.ensures 0
    ∙ ap (λ n. node_at s.pending.items (n - 1)) pending in
    λ i l. subst (λ v. Reaches graph (beginning (state_of s) i) v) (sym target)
    (edge_led_to graph (state_of s) c.loop-self.invariant.search.state begun edge i l)
