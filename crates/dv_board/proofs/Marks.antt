-- What is written from mark to mark is a beginning of the trace.
use Rattle.std.proofs.Common.{◌≡◌, List, [], ◌∷◌, refl, ap, ◌∙◌}
use Rattle.dv_time.specs.Time.{rank}
use Rattle.dv_time.specs.declared.time.Time.{Time}
use Rattle.dv_bag.specs.Part.{PartOf}
use Rattle.dv_devs.specs.Network.{trace_at}
use Rattle.dv_devs.proofs.Cuts.{join_between}
use Rattle.dv_conservative.specs.Flat.{whole}
use Rattle.dv_conservative.specs.World.{Job}
use Rattle.dv_board.specs.Marks.{RiseSince, last_mark, written_by}
use Rattle.dv_board.proofs.Wholes.{trace_of_job}

pub written_is_trace : (job : Job) (from : Time) (marks : List Time) → RiseSince job from marks
    → written_by job (trace_of_job job (rank job.limit from)) from marks ≡ trace_of_job job (rank job.limit (last_mark from marks))
written_is_trace job from [] rise = refl
written_is_trace job from (mark ∷ marks) rise =
    ap (λ (p : PartOf). written_by job p mark marks)
    (join_between (trace_at job.limit (whole job.flat) job.outside) (rank job.limit from) (rank job.limit mark) rise.0)
    ∙ written_is_trace job mark marks rise.1
