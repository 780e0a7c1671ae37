-- Two processes without components, with a link each way.
use Rattle.std.specs.Prelude.{ℕ, [], ◌∷◌, Some}
use Rattle.dv_conservative.specs.Flat.{Flat}
use Rattle.dv_conservative.specs.Process.{Share}
use Rattle.dv_conservative.specs.World.{Job}
use Rattle.dv_proc.specs.Local.{View}
use Rattle.test_ring.specs.declared.job.RingJob.{RingJob}
use Rattle.test_ring.specs.declared.silent.Silent.{Silent}

abbrev pub no_components : Flat
no_components = record { members = []; links = []; entrances = []; exits = []; outputs = 0 }

-- the share of one of them: its links carry nothing
abbrev pub share_by : (limit horizon ticks incoming outgoing : ℕ) → Share
share_by limit horizon ticks incoming outgoing = record {
  limit = limit;
  horizon = horizon;
  flat = no_components;
  outside = λ k. [];
  incoming = incoming ∷ [];
  outgoing = record { number = outgoing; links = [] } ∷ [];
  response = Some ticks;
}

abbrev pub view_of : Silent → View
view_of n = record {
  share = share_by n.frame.limit n.frame.horizon n.ticks n.incoming n.outgoing;
  components = [];
  committed = n.record.told;
  held = λ k. [];
}

abbrev pub job_by : (limit horizon ticks : ℕ) → Job
job_by limit horizon ticks = record {
  limit = limit;
  horizon = horizon;
  flat = no_components;
  outside = λ n. [];
  processes = 2;
  owner = λ k. 0;
  channels = record { source = 0; target = 1 } ∷ record { source = 1; target = 0 } ∷ [];
  responses = λ p. Some ticks;
}

abbrev pub job_of : RingJob → Job
job_of j = job_by j.frame.limit j.frame.horizon j.ticks
