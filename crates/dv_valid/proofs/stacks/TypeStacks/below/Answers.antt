use Rattle.std.proofs.Common.{arith, ap}
use Rattle.dv_valid.proofs.Tries.{length-stacks, node_read, types_below}
use Rattle.dv_valid.proofs.stacks.TypeStacks.below.Goals as goal

pub index-requires : goal.index-requires
index-requires c =
    let nodes = c.self.inside.nodes in
    omega (arith, length-stacks nodes.items c.args.self.now c.self.invariant c.self.view_is, nodes.ok.0)

pub returns : goal.returns
returns c =
    let nodes = c.self.inside.nodes.items in
    let stacks = c.args.self.now in
    let read = node_read nodes stacks c.self.invariant c.self.view_is c.args.stack c.index.result.now c.requires c.index.ensures in
    types_below nodes stacks c.self.invariant c.self.view_is c.args.stack c.args.top c.index.result.now.stack c.below.result c.requires
    (ap (λ n. n.stack) read) c.below.ensures
