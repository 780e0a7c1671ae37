use Rattle.std.proofs.Common.{◌≡◌, ◌++◌, ◌≤◌, ℕ, ap, ◌∙◌, arith, length, take}
use Rattle.std.proofs.lemmas.List.{append-nil}
use Rattle.dv_local.specs.Arrivals.{coming_at, items_at}
use Rattle.dv_local.proofs.ArrivalMaps.{back_step}
use Rattle.dv_local.proofs.by_time.take_all_back.Goals as goal

pub loop-left-preserved : goal.loop-left-preserved
loop-left-preserved c =
    let left : c.loop-left.left ≤ length c.args.events.now = c.loop-left.invariant.left in
    record {
      left = omega arith;
      filled = c.take_back.ensures.filled;
      taken = λ before h t.
          back_step c.args.events.now c.loop-left.left _ c.loop-left-test.true left t (items_at t c.loop-left.by_time)
          (items_at t c.take_back.new.by_time) (before t) (c.loop-left.invariant.taken before h t) (c.take_back.ensures.taken t);
    }

pub returns-clause-taken : goal.returns-clause-taken
returns-clause-taken c =
    let none : c.loop-left.left ≡ 0 = omega arith in
    λ before h t.
    c.loop-left.invariant.taken before h t
    ∙ ap (λ (n : ℕ). before t ++ coming_at t (take n c.args.events.now)) none
    ∙ append-nil (before t)
