use Rattle.std.proofs.Common.{List, Result, Ok, ap, sym, ◌∙◌, subst}
use Rattle.dv_bag.specs.declared.fault.Fault.{Fault}
use Rattle.dv_bag.specs.declared.state.Datum.{Datum}
use Rattle.dv_code.specs.Shape.{Fits}
use Rattle.dv_code.specs.Valid.{IsSafe}
use Rattle.law_compiled.specs.Behaviours.{change_of as change_of_effect}
use Rattle.dv_devs.specs.Behaviour.{Change}
use Rattle.dv_coded.proofs.bench.go.Goals as goal

pub returns-clause-given : goal.returns-clause-given
returns-clause-given c =
    let p = c.args.program.now in
    let safe : IsSafe p = (c.code-code.ensures.program.valid, c.code-code.ensures.program.small) in
    ap change_of_effect
    (c.short_programs_do_what_they_say.ensures.goes p safe c.args.arrivals.now c.are_few.ensures c.args.state.now c.requires.fits
    c.args.phase c.requires.short)
    ∙ ap (λ (m : Change). let r : Result Change Fault = Ok m in r) (sym c.go_to.ensures.change)

pub returns-clause-fits : goal.returns-clause-fits
returns-clause-fits c =
    subst (λ (variables : List Datum). Fits c.args.program.now.shape.slots variables) (sym c.go_to.ensures.variables)
    c.requires.fits
