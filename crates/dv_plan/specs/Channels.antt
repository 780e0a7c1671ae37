-- What channels mean.
use Rattle.std.specs.Prelude.{ℕ}
use Rattle.dv_conservative.specs.Process.{Outgoing}
use Rattle.dv_conservative.specs.World.{Job, outgoing_on}
use Rattle.dv_plan.specs.declared.channels.Away.{Away}

-- a channel that leads away from a process, with its links between components
abbrev pub away_of : Job → ℕ → Away → Outgoing
away_of job p a = outgoing_on job a.number (record { source = p; target = a.target })
