use Rattle.std.proofs.Common.{ℕ, length, refl, ap, sym, ◌∙◌, subst, arith, inl, inr}
use Rattle.std.specs.Prelude.{slice_get}
use Rattle.std.proofs.lemmas.Bool.{cases_eq}
use Rattle.std.proofs.lemmas.Option.{get_or_from_slice_get, slice_get_within}
use Rattle.dv_code.specs.Shape.{left_by}
use Rattle.dv_code.specs.Valid.{IsFine}
use Rattle.dv_code.specs.Limits.{deepest_loops}
use Rattle.dv_code.specs.declared.instruction.Instruction.{Instruction}
use Rattle.dv_valid.specs.Marks.{mark_of}
use Rattle.dv_valid.proofs.marks.Marks.fit.Goals as goal

pub loop-address-preserved : goal.loop-address-preserved
loop-address-preserved c =
    let shape = c.args.shape.now in
    let code = c.args.code.now in
    let here = c.loop-address.address in
    let marks = c.args.self.now in
    let P : ℕ → Instruction → Type 0 =
    IsFine shape (left_by shape.sort) deepest_loops (length marks.by_address.items) (mark_of marks) in
    λ address i h e. elim (cases_eq address here) [
      | inl at ↦ let it = get_or_from_slice_get code here i _ (ap (slice_get code) (sym at) ∙ e) in
          subst (λ p. P p i) (sym at) (subst (P here) it (c.is_fine.ensures.0 c.if-not-is_fine.false))
      | inr ne ↦ c.loop-address.invariant address i (omega arith) e
    ]

pub returns : goal.returns
returns c =
    let shape = c.args.shape.now in
    let code = c.args.code.now in
    let marks = c.args.self.now in
    let P : ℕ → ℕ → Instruction → Type 0 = λ end. IsFine shape (left_by shape.sort) deepest_loops end (mark_of marks) in
    let start = c.arrives.ensures.0 c.if-not-arrives.false in (
      λ t. record {
        start = (omega (arith, start.0, c.requires.one_each), start.1 ∙ c.outside.ensures.mark);
        each = λ address i e. subst (λ end. P end address i) c.requires.one_each
            (c.loop-address.invariant address i (omega (arith, slice_get_within code address i e, c.loop-address-test.false)) e);
      },
      λ f. refl,
    )
