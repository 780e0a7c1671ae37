use Rattle.std.proofs.Common.{ℕ, zero, suc, [], ◌<◌, refl, arith}
use Rattle.dv_bag.specs.Arrivals.{nothing_arrived}
use Rattle.dv_bag.specs.declared.state.State.{State}
use Rattle.dv_code.specs.Machine.{begins, run}
use Rattle.dv_code.specs.Rows.{eight_values, front_pushed, one_popped, queued}
use Rattle.dv_code.specs.Runs.{IsUnderway}
use Rattle.dv_code.specs.Valid.{Program}
use Rattle.dv_code.proofs.rows.faults_of_queues.Goals as goal

-- before the first step a run is underway
at_first : (p : Program) (s : State) (n : ℕ) → n < 1 → IsUnderway (run p.shape p.code nothing_arrived n (begins p.shape s))
at_first p s zero lt = tt
at_first p s (suc n) lt = absurd (omega (arith, lt))

pub returns-clause-pop : goal.returns-clause-pop
returns-clause-pop c = record { last = refl; over = tt; underway = at_first one_popped (queued []) }

pub returns-clause-front : goal.returns-clause-front
returns-clause-front c = record { last = refl; over = tt; underway = at_first front_pushed (queued []) }

pushing : (n : ℕ) → n < 2
    → IsUnderway (run front_pushed.shape front_pushed.code nothing_arrived n (begins front_pushed.shape (queued eight_values)))
pushing zero lt = tt
pushing (suc zero) lt = tt
pushing (suc (suc n)) lt = absurd (omega (arith, lt))

pub returns-clause-push : goal.returns-clause-push
returns-clause-push c = record { last = refl; over = tt; underway = pushing }
