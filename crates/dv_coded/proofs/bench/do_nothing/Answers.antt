use Rattle.std.proofs.Common.{ap}
use Rattle.dv_code.specs.Valid.{IsSafe}
use Rattle.law_compiled.specs.Behaviours.{change_of as change_of_effect}
use Rattle.dv_coded.proofs.bench.do_nothing.Goals as goal

pub returns : goal.returns
returns c =
    let p = c.args.program.now in
    let safe : IsSafe p = (c.code-code.ensures.program.valid, c.code-code.ensures.program.small) in
    ap change_of_effect
    (c.short_programs_do_what_they_say.ensures.nothing p safe c.args.arrivals.now c.are_few.ensures c.args.state.now c.requires.fits
    c.requires.short)
