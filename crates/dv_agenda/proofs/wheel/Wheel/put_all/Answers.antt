use Rattle.std.proofs.Common.{inl, inr, ℕ, None, get_or, refl, sym, subst, arith, ◌∙◌}
use Rattle.std.proofs.lemmas.Bool.{cases_eq}
use Rattle.dv_agenda.specs.Agendas.{IsIn}
use Rattle.dv_agenda.proofs.Wheels.{in_more}
use Rattle.dv_agenda.proofs.wheel.Wheel.put_all.Goals as goal

pub loop-index-preserved : goal.loop-index-preserved
loop-index-preserved c = record {
  room = c.put.ensures.room;
  present = c.put.ensures.more.present ∙ c.loop-index.invariant.present;
  span = c.put.ensures.more.span ∙ c.loop-index.invariant.span;
  there = λ p lt. elim (cases_eq p c.loop-index.index) [
    | inl e ↦
        subst (λ (i : ℕ). IsIn c.put.new.self i (get_or c.args.waits.now i None)) (sym e) c.put.ensures.there
    | inr ne ↦
        in_more c.loop-index.self c.put.new.self p (get_or c.args.waits.now p None) c.put.ensures.more
        (c.loop-index.invariant.there p (omega arith))
  ];
  held = c.put.ensures.held c.args.waits.now refl c.loop-index.invariant.held;
}
