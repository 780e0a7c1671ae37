use Rattle.std.proofs.Common.{◌≡◌, ℕ, zero, suc, [], length, Some, refl, subst, arith}
use Rattle.std.specs.Prelude.{slice_get}
use Rattle.std.proofs.lemmas.Option.{same_Some}
use Rattle.dv_bag.specs.declared.discipline.Discipline.TheVariants as discipline
use Rattle.dv_code.specs.Shape.{AreSmall}
use Rattle.dv_code.specs.Rows.{each_sent, each_sent_marks, sender}
use Rattle.dv_code.specs.Valid.{IsFine}
use Rattle.dv_code.specs.Limits.{deepest_loops}
use Rattle.dv_code.specs.declared.shape.Slot.TheVariants.{Holding}
use Rattle.dv_code.specs.declared.instruction.Instruction.{Instruction}
use Rattle.dv_code.proofs.rows.a_program_and_its_marks.Goals as goal

abbrev Fine : ℕ → Instruction → Type 0
Fine = IsFine sender [] deepest_loops (length each_sent.code) each_sent_marks

fine_at : (address : ℕ) (i : Instruction) → slice_get each_sent.code address ≡ Some i → Fine address i
fine_at zero i e = subst (Fine 0) (same_Some _ i e) (record {
  lies = omega arith;
  shallow = omega arith;
  agrees = (refl, (8, refl), (omega arith, refl), (omega arith, refl));
})
fine_at (suc zero) i e = subst (Fine 1) (same_Some _ i e) (record {
  lies = (omega arith, omega arith, omega arith);
  shallow = omega arith;
  agrees = (omega arith, (omega arith, refl));
})
fine_at (suc (suc zero)) i e = subst (Fine 2) (same_Some _ i e) (record {
  lies = (omega arith, omega arith, omega arith);
  shallow = omega arith;
  agrees = ([], refl, (omega arith, refl), (omega arith, refl));
})
fine_at (suc (suc (suc zero))) i e = subst (Fine 3) (same_Some _ i e) (record {
  lies = (omega arith, omega arith, omega arith);
  shallow = omega arith;
  agrees = ([], refl, refl, (omega arith, refl), (omega arith, refl));
})
fine_at (suc (suc (suc (suc zero)))) i e = subst (Fine 4) (same_Some _ i e) (record {
  lies = omega arith;
  shallow = omega arith;
  agrees = (refl, refl, refl);
})
fine_at (suc (suc (suc (suc (suc address))))) i e = absurd (cc)

small : AreSmall sender.slots
small zero d capacity e =
    let same : Holding discipline.Bag 8 ≡ Holding d capacity = same_Some (Holding discipline.Bag 8) (Holding d capacity) e in
    let eight : 8 ≡ capacity = cc in
    (omega (arith, eight), omega (arith, eight))
small (suc address) d capacity e = absurd (cc)

pub returns : goal.returns
returns c = (
  record { valid = record { marks = each_sent_marks; start = (omega arith, refl); each = fine_at }; small = small; short = omega arith },
  refl,
)
