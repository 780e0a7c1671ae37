use Rattle.std.proofs.Common.{ℕ, zero, suc, ◌∷◌, [], ◌<◌, pos, refl, arith}
use Rattle.dv_bag.specs.Arrivals.{nothing_arrived}
use Rattle.dv_code.specs.Machine.{begins, run}
use Rattle.dv_code.specs.Rows.{each_pushed, keeper, queued}
use Rattle.dv_code.specs.Runs.{IsUnderway}
use Rattle.dv_code.proofs.rows.a_run_over_a_queue.Goals as goal

underway : (n : ℕ) → n < 9 → IsUnderway (run keeper each_pushed.code nothing_arrived n (begins keeper (queued (pos 7 ∷ pos 3 ∷ []))))
underway zero lt = tt
underway (suc zero) lt = tt
underway (suc (suc zero)) lt = tt
underway (suc (suc (suc zero))) lt = tt
underway (suc (suc (suc (suc zero)))) lt = tt
underway (suc (suc (suc (suc (suc zero))))) lt = tt
underway (suc (suc (suc (suc (suc (suc zero)))))) lt = tt
underway (suc (suc (suc (suc (suc (suc (suc zero))))))) lt = tt
underway (suc (suc (suc (suc (suc (suc (suc (suc zero)))))))) lt = tt
underway (suc (suc (suc (suc (suc (suc (suc (suc (suc n))))))))) lt = absurd (omega (arith, lt))

pub returns : goal.returns
returns c = record { last = refl; over = tt; underway = underway }
