use Rattle.std.proofs.Common.{ap, sym, ◌∙◌, arith}
use Rattle.dv_bag.specs.Inputs.{bags_at, inputs_before}
use Rattle.dv_time.proofs.Ranks.{time_of-rank}
use Rattle.dv_plain.proofs.InputWalk.{index-moves}
use Rattle.dv_plain.proofs.input.input_at.Goals as goal

pub bags_at-requires : goal.bags_at-requires
bags_at-requires c = (c.args.instant.now.limit, c.requires.of_run, c.requires.index)

pub index_from-after-requires : goal.index_from-after-requires
index_from-after-requires c =
    let limit = c.args.instant.now.limit in
    let same = ap (λ t. inputs_before limit c.args.inputs.now t) c.succ-next.ensures in
    omega (arith, same, index-moves limit c.args.inputs.now c.args.instant.now.time c.requires.of_run, c.requires.index)

pub returns-clause-bags : goal.returns-clause-bags
returns-clause-bags c =
    c.in_ok-bags.ensures
    ∙ ap (bags_at c.args.ports c.args.inputs.now)
    (sym (time_of-rank c.args.instant.now.limit c.args.instant.now.time c.requires.of_run))
