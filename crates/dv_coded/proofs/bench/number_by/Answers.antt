use Rattle.dv_bag.specs.Arrivals.{nothing_arrived}
use Rattle.dv_code.specs.Valid.{IsSafe}
use Rattle.dv_coded.proofs.Machines.{nothing-few, number-given}
use Rattle.dv_coded.proofs.bench.number_by.Goals as goal

pub returns : goal.returns
returns g c =
    let p = c.args.program.now in
    let safe : IsSafe p = (c.code-code.ensures.program.valid, c.code-code.ensures.program.small) in
    number-given p nothing_arrived c.args.state.now _ c.run_hold.result
    (c.the_machine_gives_what_programs_give.ensures.number p safe nothing_arrived nothing-few c.args.state.now c.requires.fits _)
    (c.the_machine_gives_what_programs_give.ensures.hold_fault p safe nothing_arrived nothing-few c.args.state.now c.requires.fits _)
    c.run_hold.ensures.number
