use Rattle.std.proofs.Common.{◌≡◌, ◌-◌, ◌≤◌, length, take, subst, arith}
use Rattle.dv_cycles.specs.Search.{segment_at}
use Rattle.dv_cycles.proofs.Lists.{close_lists}
use Rattle.dv_cycles.proofs.search.Search.close.Goals as goal

pub returns-clause-search : goal.returns-clause-search
returns-clause-search c = λ graph h.
    let s = c.args.self.now in
    let less = c.pop.new.self.items in
    let joined = c.join.new.segments in
    let rest = subst (λ n. less ≡ take (n - 1) s.pending.items) s.pending.ok.0 c.pop.ensures.rest in
    let kept = subst (λ n. joined.items ≡ take n s.segments.items) joined.ok.0 c.join.ensures.kept in
    let new : joined.len ≡ length joined.items = joined.ok.0 in
    let old : s.segments.len ≡ length s.segments.items = s.segments.ok.0 in
    let fewer : length joined.items ≤ length s.segments.items = omega (arith, c.join.ensures.fewer) in
    record {
      marked = h.marked;
      counted = omega (arith, h.counted);
      state = close_lists graph s h.state less joined.items c.args.position c.requires.edge c.requires.on_path fewer kept
          (λ i a b. c.join.ensures.joined i (omega arith) (omega arith))
          (λ b. subst (λ n. (segment_at joined.items (n - 1)).first_node ≤ c.args.position) new (c.join.ensures.last (omega arith)))
          rest;
    }
