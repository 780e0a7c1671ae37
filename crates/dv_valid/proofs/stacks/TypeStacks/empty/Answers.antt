use Rattle.std.proofs.Common.{arith}
use Rattle.dv_valid.proofs.Tries.{length-stacks, types_first}
use Rattle.dv_valid.proofs.stacks.TypeStacks.empty.Goals as goal

pub returns-clause-within : goal.returns-clause-within
returns-clause-within c =
    omega (arith, c.self.invariant.some, length-stacks c.self.inside.nodes.items c.args.self.now c.self.invariant c.self.view_is)

pub returns-clause-empty : goal.returns-clause-empty
returns-clause-empty c = types_first c.self.inside.nodes.items c.args.self.now c.self.invariant c.self.view_is
