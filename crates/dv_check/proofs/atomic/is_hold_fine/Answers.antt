use Rattle.std.proofs.Common.{◌∙◌}
use Rattle.std.specs.Option.{option_copied}
use Rattle.dv_eval.specs.Scope.{ticks_found}
use Rattle.dv_check.specs.Rules.{known_by, phase_refusals, ticks_refusals}
use Rattle.dv_check.proofs.Found.{nothing_in_both}
use Rattle.dv_check.proofs.atomic.is_hold_fine.Goals as goal

pub returns : goal.returns
returns c =
    let known = known_by c.args.declarations.now in
    c.is_empty.ensures
    ∙ nothing_in_both c.check_phase.new.found c.check_found_ticks.new.found (phase_refusals known c.args.phase.now)
    (ticks_refusals known (ticks_found (option_copied c.args.ticks))) (rw (← c.new-wrong.ensures) c.check_phase.ensures)
    c.check_found_ticks.ensures
