use Rattle.std.proofs.Common.{ℕ, zero, suc, ◌<◌, refl, arith}
use Rattle.dv_bag.specs.Arrivals.{nothing_arrived}
use Rattle.dv_code.specs.Machine.{begins, run}
use Rattle.dv_code.specs.Rows.{each_sent, sender, stored, three_values}
use Rattle.dv_code.specs.Runs.{IsUnderway}
use Rattle.dv_code.proofs.rows.a_run_of_eleven_steps.Goals as goal

underway : (n : ℕ) → n < 11 → IsUnderway (run sender each_sent.code nothing_arrived n (begins sender (stored three_values)))
underway zero lt = tt
underway (suc zero) lt = tt
underway (suc (suc zero)) lt = tt
underway (suc (suc (suc zero))) lt = tt
underway (suc (suc (suc (suc zero)))) lt = tt
underway (suc (suc (suc (suc (suc zero))))) lt = tt
underway (suc (suc (suc (suc (suc (suc zero)))))) lt = tt
underway (suc (suc (suc (suc (suc (suc (suc zero))))))) lt = tt
underway (suc (suc (suc (suc (suc (suc (suc (suc zero)))))))) lt = tt
underway (suc (suc (suc (suc (suc (suc (suc (suc (suc zero))))))))) lt = tt
underway (suc (suc (suc (suc (suc (suc (suc (suc (suc (suc zero)))))))))) lt = tt
underway (suc (suc (suc (suc (suc (suc (suc (suc (suc (suc (suc n))))))))))) lt = absurd (omega (arith, lt))

pub returns : goal.returns
returns c = record { last = refl; over = tt; underway = underway }
