use Rattle.std.proofs.Common.{◌≡◌, ap, ◌∙◌, subst, ℕ, arith}
use Rattle.dv_time.specs.Time.{end_of, rank}
use Rattle.dv_devs.specs.Parts.{part_before}
use Rattle.dv_conservative.specs.Flat.{whole}
use Rattle.dv_conservative.specs.Process.{events_by, part_by}
use Rattle.dv_conservative.specs.World.{new_world, owned, received_in, share_of}
use Rattle.dv_conservative.proofs.Holding.{holds_after, holds_at_first, part_now}
use Rattle.dv_conservative.proofs.world.a_whole_run_is_the_trace.Goals as goal

pub returns : goal.returns
returns x fits job capacity steps w p good run at =
    let same : rank job.limit (w.clock p) ≡ end_of job.limit job.horizon = ap (rank job.limit) at ∙ omega arith in
    subst (λ (n : ℕ).
    part_by (share_of job p) (events_by (received_in w)) n ≡ part_before (owned job p) job.limit (whole job.flat) job.outside n) same
    (part_now fits job good w (holds_after fits job good (new_world capacity) w steps (holds_at_first fits job good capacity) run) p)
