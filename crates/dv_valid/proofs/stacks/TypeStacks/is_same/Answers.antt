use Rattle.std.proofs.Common.{ap, eqb-true, eq-eqb}
use Rattle.dv_valid.specs.Stacks.{types_at}
use Rattle.dv_valid.proofs.Tries.{types_differ}
use Rattle.dv_valid.proofs.stacks.TypeStacks.is_same.Goals as goal

pub returns : goal.returns
returns c =
    let stacks = c.args.self.now in
    let differ = types_differ c.self.inside.nodes.items stacks c.self.invariant c.self.view_is in
    let one = c.args.one in
    let other = c.args.other in
    (λ t. ap (types_at stacks) (eqb-true one other t), λ e. eq-eqb one other (differ one other c.requires.one c.requires.other e))
