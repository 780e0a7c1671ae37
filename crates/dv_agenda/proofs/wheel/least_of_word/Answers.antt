use Rattle.std.proofs.Common.{◌≡◌, inl, inr, ℕ, ◌+◌, Option, None, List, get_or, sym, ap, subst, arith, ◌∙◌}
use Rattle.std.proofs.lemmas.Bool.{cases_eq}
use Rattle.std.proofs.lemmas.Nat.Bits.{bit_at-zero}
use Rattle.std.specs.Int.{bit_at}
use Rattle.dv_time.specs.declared.time.Time.{Time}
use Rattle.dv_time.specs.Time.{earliest}
use Rattle.dv_agenda.specs.Waits.{first_of}
use Rattle.dv_agenda.proofs.FirstWaits.{first_least, earliest_above, earliest_keeps, earliest_second}
use Rattle.dv_agenda.proofs.wheel.least_of_word.Goals as goal

pub loop-rest-init : goal.loop-rest-init
loop-rest-init c = record {
  above = c.requires.above;
  below = λ p lt one. inl one;
  before = λ w h. h;
}

pub loop-rest-preserved : goal.loop-rest-preserved
loop-rest-preserved c =
    let ws : List (Option Time) = c.args.waits.now in
    let k : ℕ = c.take_least.result in
    let a : Option Time = c.loop-rest.found in
    let w : Option Time = c.wait_at.result in
    let is : c.earliest-found.result ≡ earliest c.loop-rest.found c.wait_at.result = c.earliest-found.ensures in
    let at : c.wait_at.result ≡ get_or c.args.waits.now (c.args.base + c.take_least.result) None = c.wait_at.ensures in
    let keeps : (v : Option Time) → earliest a v ≡ a → earliest c.earliest-found.result v ≡ c.earliest-found.result =
    λ v h. subst (λ (x : Option Time). earliest x v ≡ x) (sym is) (earliest_keeps a w v h) in
    record {
      above = ap (earliest (first_of ws)) is
          ∙ earliest_above (first_of ws) a w c.loop-rest.invariant.above
          (ap (earliest (first_of ws)) at ∙ first_least ws (c.args.base + k));
      below = λ p lt one. elim (c.loop-rest.invariant.below p lt one) [
        | inl r ↦ elim (cases_eq p c.take_least.result) [
          | inl e ↦
              let v : get_or c.args.waits.now (c.args.base + p) None ≡ c.wait_at.result =
              ap (λ (i : ℕ). get_or c.args.waits.now (c.args.base + i) None) e ∙ sym at in
              inr (ap (earliest c.earliest-found.result) v
              ∙ subst (λ (x : Option Time). earliest x w ≡ x) (sym is) (earliest_second a w))
          | inr ne ↦ inl (c.take_least.ensures.others p lt ne ∙ r)
        ]
        | inr h ↦ inr (keeps (get_or ws (c.args.base + p) None) h)
      ];
      before = λ v h. keeps v (c.loop-rest.invariant.before v h);
    }

pub returns-clause-below : goal.returns-clause-below
returns-clause-below c = λ p lt one. elim (c.loop-rest.invariant.below p lt one) [
  | inl r ↦
      let nil : bit_at c.loop-rest.rest p ≡ 0 = ap (λ (n : ℕ). bit_at n p) c.loop-rest-test.false ∙ bit_at-zero p in
      absurd (omega arith)
  | inr h ↦ h
]
