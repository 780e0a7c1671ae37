use Rattle.std.proofs.Common.{◌≡◌, ℕ, subst, arith}
use Rattle.dv_time.specs.Time.{rank}
use Rattle.dv_conservative.specs.Process.{first_time}
use Rattle.dv_board.specs.Marks.{last_mark, written_by}
use Rattle.dv_board.proofs.Marks.{written_is_trace}
use Rattle.dv_board.proofs.Wholes.{trace_of_job}
use Rattle.dv_board.proofs.laws.pieces_in_turn_begin_the_trace.Goals as goal

pub returns : goal.returns
returns x = λ job marks rise.
    let first : rank job.limit first_time ≡ 0 = omega arith in
    subst (λ (n : ℕ). written_by job (trace_of_job job n) first_time marks
    ≡ trace_of_job job (rank job.limit (last_mark first_time marks)))
    first (written_is_trace job first_time marks rise)
