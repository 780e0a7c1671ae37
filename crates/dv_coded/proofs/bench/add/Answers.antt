use Rattle.std.proofs.Common.{List, Result, Ok, ap, sym, ◌∙◌, subst}
use Rattle.dv_bag.specs.declared.fault.Fault.{Fault}
use Rattle.dv_bag.specs.declared.state.Datum.{Datum}
use Rattle.dv_code.specs.Outcomes.{effect_by}
use Rattle.dv_code.specs.Shape.{Fits}
use Rattle.dv_code.specs.Valid.{IsSafe}
use Rattle.law_compiled.specs.Behaviours.{change_of as change_of_effect}
use Rattle.dv_devs.specs.Behaviour.{Change}
use Rattle.dv_coded.proofs.Machines.{change-fails}
use Rattle.dv_coded.proofs.bench.add.Goals as goal

pub returns-in-Ok-clause-given : goal.returns-in-Ok-clause-given
returns-in-Ok-clause-given c =
    ap change_of_effect c.in-Ok.ensures.added
    ∙ ap (λ (m : Change). let r : Result Change Fault = Ok m in r) (sym c.go_to.ensures.change)

pub returns-in-Ok-clause-fits : goal.returns-in-Ok-clause-fits
returns-in-Ok-clause-fits c =
    let p = c.args.program.now in
    let safe : IsSafe p = (c.code-code.ensures.program.valid, c.code-code.ensures.program.small) in
    subst (λ (variables : List Datum). Fits p.shape.slots variables) (sym c.go_to.ensures.variables)
    (c.states_that_are_left_fit.ensures p safe c.args.arrivals.now c.are_few.ensures c.args.state.now c.requires.fits _ c.in-Ok.ensures.added)

pub returns-in-Err-clause-given : goal.returns-in-Err-clause-given
returns-in-Err-clause-given c =
    change-fails c.in-Err.error (effect_by c.args.program.now c.args.arrivals.now c.args.state.now) c.in-Err.ensures.fault
