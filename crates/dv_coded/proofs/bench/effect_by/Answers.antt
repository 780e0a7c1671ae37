use Rattle.std.proofs.Common.{◌*◌, ◌^◌, length}
use Rattle.dv_bag.specs.Limits.{greatest_count}
use Rattle.dv_code.specs.Shape.{left_by}
use Rattle.dv_code.specs.Limits.{deepest_loops}
use Rattle.dv_code.specs.Valid.{IsSafe}
use Rattle.dv_coded.proofs.Machines.{effect-given, fits-given}
use Rattle.dv_coded.proofs.bench.effect_by.Goals as goal

pub returns-clause-given : goal.returns-clause-given
returns-clause-given g c =
    let p = c.args.program.now in
    let safe : IsSafe p = (c.code-code.ensures.program.valid, c.code-code.ensures.program.small) in
    effect-given p c.args.arrivals.now c.args.state _ c.run_rule.result
    (c.the_machine_gives_what_programs_give.ensures.effect p safe c.args.arrivals.now c.are_few.ensures c.args.state c.requires.fits _)
    (c.the_machine_gives_what_programs_give.ensures.fault p safe c.args.arrivals.now c.are_few.ensures c.args.state c.requires.fits _)
    c.run_rule.ensures.effect

pub returns-clause-fits : goal.returns-clause-fits
returns-clause-fits g c =
    let p = c.args.program.now in
    let program = c.code-code.ensures.program in
    fits-given p (left_by p.shape.sort) c.args.arrivals.now c.args.state _ (length p.code * greatest_count ^ deepest_loops)
    c.run_rule.result
    (c.runs_end_in_one_way.ensures p c.args.arrivals.now c.args.state)
    (c.valid_programs_end.ensures p (left_by p.shape.sort) deepest_loops program.valid program.small c.args.arrivals.now c.are_few.ensures
    c.args.state c.requires.fits)
    c.run_rule.ensures.effect
