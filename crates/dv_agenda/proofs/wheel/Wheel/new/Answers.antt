use Rattle.std.proofs.Common.{◌≡◌, ℕ, ◌+◌, ◌*◌, ◌/◌, length, replicate, refl, ap, arith, ◌∙◌}
use Rattle.std.proofs.lemmas.Grind.{common_steps}
use Rattle.std.proofs.lemmas.List.{length-replicate}
use Rattle.dv_agenda.specs.declared.least.Least.{Least}
use Rattle.dv_agenda.specs.Wheel.{nothing}
use Rattle.dv_agenda.proofs.Wheels.{kept_empty}
use Rattle.dv_agenda.proofs.wheel.Wheel.new.Goals as goal

pub returns : goal.returns
returns c =
    let sets : length c.in_ok-members.members ≡ 641 * ((c.args.components + 63) / 64) =
    ap length c.in_ok-members.ensures ∙ length-replicate {A = ℕ} (641 * ((c.args.components + 63) / 64)) 0 in
    let leasts : c.resize.new.self.items ≡ replicate 641 nothing = grind (arith, common_steps) in
    let count : length c.resize.new.self.items ≡ 641 = ap length leasts ∙ length-replicate {A = Least} 641 nothing in
    kept_empty _ c.args.components
    (record {
      slots = omega arith;
      room = omega arith;
      known = omega arith;
      few = omega arith;
      small = omega arith;
      whole = omega arith;
      narrow = omega arith;
    }) (omega arith) refl leasts
