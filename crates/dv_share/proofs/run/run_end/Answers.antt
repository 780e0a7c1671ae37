use Rattle.std.proofs.Common.{◌≡◌, ◌∙◌, inl, inr, get_or, sym, ap, subst, arith}
use Rattle.std.proofs.lemmas.Bool.{cases_lt}
use Rattle.std.proofs.lemmas.Option.{get_or_from_slice_get, slice_get-get_or}
use Rattle.dv_share.proofs.run.run_end.Goals as goal

pub loop-end-init : goal.loop-end-init
loop-end-init g c = record {
  onward = omega arith;
  within = c.requires.within;
  there = λ k d le lt. absurd (omega (arith, le, lt));
}

pub loop-end-preserved : goal.loop-end-preserved
loop-end-preserved g c =
    let n = g.T.Numbered.number in
    let end = c.loop-end.end in
    let xs = c.args.items.now in
    let i = c.loop-end.invariant in
    record {
      onward = omega (arith, i.onward);
      within = omega (arith, c.loop-end-test.true);
      there = λ k d le lt. elim (cases_lt k end) [
        | inl less ↦ i.there k d le less
        | inr ge ↦
            let same : end ≡ k = omega (arith, ge, lt) in
            let r = c.index-items-end.result in
            let read = get_or_from_slice_get xs end (get_or xs end r) d (slice_get-get_or xs end r c.loop-end-test.true) in
            subst (λ j. n (get_or xs j d) ≡ c.args.number) same
            (ap n read ∙ ap n (sym c.index-items-end.is) ∙ sym c.number.ensures ∙ c.if-number.true)
      ];
    }

pub returns-else-number-clause-onward : goal.returns-else-number-clause-onward
returns-else-number-clause-onward g c = c.loop-end.invariant.onward

pub returns-else-number-clause-there : goal.returns-else-number-clause-there
returns-else-number-clause-there g c = c.loop-end.invariant.there

-- the first item that is not of the number is of a later one, and so are all behind it
pub returns-else-number-clause-behind : goal.returns-else-number-clause-behind
returns-else-number-clause-behind g c = λ k d le lt.
    let n = g.T.Numbered.number in
    let end = c.loop-end.end in
    let xs = c.args.items.now in
    let d0 = c.index-items-end.result in
    let low = c.requires.from d0 (omega (arith, c.loop-end.invariant.onward, c.loop-end-test.true)) in
    let up = c.requires.rise c.args.start end d0 c.loop-end.invariant.onward c.loop-end-test.true in
    let here = ap n c.index-items-end.is in
    let first = ap n (get_or_from_slice_get xs end (get_or xs end d0) d (slice_get-get_or xs end d0 c.loop-end-test.true)) in
    let again = c.requires.rise end k d le lt in
    omega (arith, low, up, here, first, again, c.number.ensures, c.if-number.false)

pub returns-after-loop-end-clause-within : goal.returns-after-loop-end-clause-within
returns-after-loop-end-clause-within g c = c.loop-end.invariant.within

pub returns-after-loop-end-clause-there : goal.returns-after-loop-end-clause-there
returns-after-loop-end-clause-there g c = c.loop-end.invariant.there
