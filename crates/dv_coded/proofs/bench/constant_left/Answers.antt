use Rattle.std.proofs.Common.{ℤ, Result, Ok, refl, sym, ap, ◌∙◌}
use Rattle.std.proofs.lemmas.Int.{to_z-of_z}
use Rattle.dv_bag.specs.Arrivals.{nothing_arrived}
use Rattle.dv_bag.specs.declared.fault.Fault.{Fault}
use Rattle.dv_code.proofs.ShortPrograms.{left_given}
use Rattle.dv_code.specs.declared.instruction.Leaf.TheVariants.{Number}
use mir.Syntax.{w64}
use Rattle.dv_coded.proofs.bench.constant_left.Goals as goal

pub returns : goal.returns
returns c =
    left_given c.args.program.now c.code-code.ensures.program c.args.state.now c.requires.fits (Number c.args.number) nothing_arrived
    refl c.requires.hold c.requires.short (Ok c.args.number) refl
    ∙ ap (λ (n : ℤ). let r : Result ℤ Fault = Ok n in r) (sym (to_z-of_z w64 c.args.number c.ranges.number))
