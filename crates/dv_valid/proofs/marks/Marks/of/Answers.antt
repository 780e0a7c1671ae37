use Rattle.std.proofs.Common.{◌≡◌, ◌-◌, true, length, ap, sym, ◌∙◌, arith, inl, inr}
use Rattle.std.proofs.lemmas.Bool.{cases_eq}
use Rattle.std.proofs.lemmas.Option.{slice_get-get_or}
use Rattle.dv_valid.specs.Marks.{mark_of}
use Rattle.dv_valid.proofs.Unique.{forced}
use Rattle.dv_valid.proofs.marks.Marks.of.Goals as goal

pub returns-then-not-branch-clause-only : goal.returns-then-not-branch-clause-only
returns-then-not-branch-clause-only c =
    let code = c.args.code.now in
    let address = c.loop-address.address - 1 in
    let these = c.loop-address.marks in
    λ shape marks e fit.
    let g = c.in_ok-settle.ensures.only (marks address)
    (forced shape code marks (mark_of these) fit address
    (λ k a b. c.loop-address.invariant.only shape marks e fit k (omega (arith, c.loop-address-test.true)) b)
    c.args.sort (length these.by_address.items) _ e c.loop-address.invariant.one_each (slice_get-get_or code address _ (omega arith))) in
    let no = c.if-not-branch.true in
    let yes : c.in_ok-settle.field-0 ≡ true = g.0 in
    absurd (cc)

pub loop-address-preserved : goal.loop-address-preserved
loop-address-preserved c = record {
  numbered = c.in_ok-settle.ensures.numbered;
  one_each = c.in_ok-settle.ensures.one_each ∙ c.loop-address.invariant.one_each;
  only = λ shape marks e fit k a h.
      let code = c.args.code.now in
      let address = c.loop-address.address - 1 in
      let these = c.loop-address.marks in
      let g = c.in_ok-settle.ensures.only (marks address)
      (forced shape code marks (mark_of these) fit address
      (λ k a b. c.loop-address.invariant.only shape marks e fit k (omega (arith, c.loop-address-test.true)) b)
      c.args.sort (length these.by_address.items) _ e c.loop-address.invariant.one_each (slice_get-get_or code address _ (omega arith))) in
      elim (cases_eq k address) [
        | inl at ↦ ap (mark_of c.settle.new.self) at ∙ g.1 ∙ ap marks (sym at)
        | inr ne ↦ c.in_ok-settle.ensures.others k ne ∙ c.loop-address.invariant.only shape marks e fit k (omega arith) h
      ];
}

pub returns-clause-only : goal.returns-clause-only
returns-clause-only c = λ shape marks e fit address h. c.loop-address.invariant.only shape marks e fit address (omega arith) h
