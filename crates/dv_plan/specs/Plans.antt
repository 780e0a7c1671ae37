-- What a plan of a job has: the channels, and the share of each process.
use Rattle.std.specs.Prelude.{◌≡◌, ℕ, ◌<◌, ◌^◌, length, map, slice_get, Some}
use Rattle.dv_bag.specs.declared.state.State.{State}
use Rattle.dv_devs.specs.Behaviour.{Behaviour}
use Rattle.dv_conservative.specs.World.{Job, share_of}
use Rattle.dv_proc.specs.Channels.{meant_channel}
use Rattle.dv_local.specs.Shares.{IsShare, share_by}
use Rattle.dv_local.specs.declared.share.Share.{Share}
use Rattle.dv_conservative.specs.Alike.{AreAlike}
use Rattle.dv_plan.specs.declared.plan.Plan.{Plan}

-- the share of a process can be run, and runs as its share of the job
pub record IsShareOf {S : Type 0} (behaviour : S → Behaviour) (fits : S → State → Type 0) (job : Job) (p : ℕ) (s : Share S) : Type 0 where
  pub share : IsShare fits s
  pub few : length s.tables.members.items < 2 ^ 32
  pub alike : AreAlike (share_by behaviour s) (share_of job p)

pub record IsPlanOf {S : Type 0} (behaviour : S → Behaviour) (fits : S → State → Type 0) (job : Job) (plan : Plan S) : Type 0 where
  pub links : map meant_channel plan.links.items ≡ job.channels
  pub count : length plan.shares.items ≡ job.processes
  pub shares : (p : ℕ) (s : Share S) → slice_get plan.shares.items p ≡ Some s → IsShareOf behaviour fits job p s
