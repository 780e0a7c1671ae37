use Rattle.std.proofs.Common.{◌≡◌, ℕ, ◌+◌, ◌-◌, ◌<◌, ◌≤◌, length, get_or, take, refl, subst, sym, arith, ◌∙◌}
use Rattle.std.proofs.lemmas.List.{take_all}
use Rattle.dv_cycles.specs.Search.{node_at}
use Rattle.dv_cycles.proofs.Settle.{front_front, front_node, settle_count, settle_start, settle_step, settle_within}
use Rattle.dv_cycles.proofs.search.settle.Goals as goal

pub loop-path-init : goal.loop-path-init
loop-path-init c =
    let path = c.args.path.now in
    let is : path.len ≡ length path.items = path.ok.0 in
    record {
      reached = c.requires.first;
      shorter = omega arith;
      kept = sym (take_all path.len path.items (omega arith));
      marks = settle_start c.args.component c.args.marks.now.items path.len path.items c.requires.path;
      nodes = refl;
      new_count = refl;
    }

pub index_mut-requires : goal.index_mut-requires
index_mut-requires c =
    let l = c.loop-path in
    let old = c.args.path.now in
    let last : ℕ = c.truncate.new.self.len in
    let v : ℕ = c.index-node.result.now in
    let size : c.len-last.result ≡ l.path.len = c.len-last.ensures in
    let some : c.args.first < l.path.len = omega arith in
    let next : last + 1 ≡ l.path.len = omega (arith, c.truncate.ensures.len) in
    let on : l.path.len ≤ old.len = omega (arith, l.invariant.shorter) in
    let index : c.len-last.result - 1 ≡ last = omega arith in
    let read = subst (λ n. v ≡ get_or l.path.items n v) index c.index-node.ensures in
    let node : node_at old.items last ≡ v =
    front_node old.items l.path.items l.path.len last v l.invariant.kept (omega arith) (omega (arith, old.ok.0)) read in
    let within : v < length l.marks.items =
    settle_within c.args.component c.args.marks.now.items old.len old.items c.requires.path l.marks.items
    l.path.len last v next on node l.invariant.marks in
    omega (arith, within, l.marks.ok.0)

pub loop-path-preserved : goal.loop-path-preserved
loop-path-preserved c =
    let l = c.loop-path in
    let old = c.args.path.now in
    let less = c.truncate.new.self in
    let v : ℕ = c.index-node.result.now in
    let size : c.len-last.result ≡ l.path.len = c.len-last.ensures in
    let some : c.args.first < l.path.len = omega arith in
    let next : less.len + 1 ≡ l.path.len = omega (arith, c.truncate.ensures.len) in
    let on : l.path.len ≤ old.len = omega (arith, l.invariant.shorter) in
    let index : c.len-last.result - 1 ≡ less.len = omega arith in
    let read = subst (λ n. v ≡ get_or l.path.items n v) index c.index-node.ensures in
    let front = subst (λ n. less.items ≡ take n l.path.items) index c.truncate.ensures.items in
    let node : node_at old.items less.len ≡ v =
    front_node old.items l.path.items l.path.len less.len v l.invariant.kept (omega arith) (omega (arith, old.ok.0)) read in
    record {
      reached = omega arith;
      shorter = omega arith;
      kept = front_front old.items l.path.items less.items l.path.len less.len l.invariant.kept front (omega arith);
      marks = settle_step c.args.component c.args.marks.now.items old.len old.items c.requires.path l.marks.items
          l.path.len less.len v next on node l.invariant.marks;
      nodes = l.invariant.nodes;
      new_count = settle_count c.args.component c.args.marks.now.items old.len old.items c.requires.path l.marks.items
          l.path.len less.len v next on node l.invariant.marks ∙ l.invariant.new_count;
    }
