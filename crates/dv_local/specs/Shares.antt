-- The share of a process.
use Rattle.std.specs.Prelude.{◌≡◌, ℕ, ◌<◌, ◌≤◌, List, map}
use Rattle.std.specs.List.{All, Contains}
use Rattle.dv_time.specs.Time.{IsOfRun}
use Rattle.dv_time.specs.Limits.{greatest_limit, greatest_tick}
use Rattle.dv_bag.specs.Inputs.{inputs_at}
use Rattle.dv_bag.specs.declared.inputs.Input.{Input}
use Rattle.dv_bag.specs.declared.state.State.{State}
use Rattle.dv_devs.specs.Behaviour.{Behaviour}
use Rattle.dv_conservative.specs.Links.{Link}
use Rattle.dv_conservative.specs.Process.{Outgoing, Share as ShareAsMeant}
use Rattle.dv_share.specs.Share.{AreTables, flat_by}
use Rattle.dv_share.specs.declared.tables.Member.{Member}
use Rattle.dv_bag.specs.Responses.{ticks_of}
use Rattle.dv_proc.specs.Foreseeing.{IsOfHold}
use Rattle.dv_local.specs.declared.share.Share.{Share}
use Rattle.dv_local.specs.declared.share.Way.{Way}

abbrev pub outgoing_of : Way → Outgoing
outgoing_of w = record { number = w.number; links = w.links }

-- the share of the theory
abbrev pub share_by : {S : Type 0} → (S → Behaviour) → Share S → ShareAsMeant
share_by behaviour p = record {
  limit = p.tables.limit;
  horizon = p.horizon;
  flat = flat_by behaviour p.tables;
  outside = inputs_at p.tables.limit p.ports p.inputs;
  incoming = p.sources.items;
  outgoing = map outgoing_of p.ways.items;
  response = ticks_of p.response;
}

-- the numbers of links to other processes
abbrev pub numbers_of_ways : List Way → List ℕ
numbers_of_ways ws = map (λ (w : Way). w.number) ws

-- there is such an input port of a member
abbrev pub IsPortOf : List Member → ℕ → ℕ → Type 0
IsPortOf ms k port = (m : Member) × Contains ms m × (m.number ≡ k) × (port < m.inputs)

-- inputs at times of a run
abbrev pub AreOfRun : ℕ → List Input → Type 0
AreOfRun limit inputs = All (λ (i : Input). IsOfRun limit i.time) inputs

-- an input from outside leads to a port of a component: an entry link takes it there
abbrev pub IsLed : {S : Type 0} → Share S → Input → Type 0
IsLed p i = (i.port < p.ports)
    × ((l : Link) × Contains p.tables.entrances l × (l.from_port ≡ i.port) × (0 < l.copies) × IsPortOf p.tables.members.items l.to
    l.to_port)

-- a share that can run: tables, bounds of the run, and inputs from outside at times of the run that lead to components here
pub record IsShare {S : Type 0} (fits : S → State → Type 0) (p : Share S) : Type 0 where
  pub tables : AreTables fits p.tables
  pub limit : p.tables.limit ≤ greatest_limit
  pub horizon : p.horizon ≤ greatest_tick
  pub hold : IsOfHold p.response
  pub led : All (IsLed p) p.inputs
  pub of_run : AreOfRun p.tables.limit p.inputs
