-- A flat model with its inputs, in the processes of its components, as a job.
use Rattle.std.specs.Prelude.{ℕ, ◌<◌, ◌≤◌, ◌^◌, List, length, map}
use Rattle.std.specs.List.{All, AllByRecursion}
use Rattle.dv_time.specs.Limits.{greatest_limit, greatest_tick}
use Rattle.dv_bag.specs.Inputs.{inputs_at}
use Rattle.dv_bag.specs.declared.inputs.Input.{Input}
use Rattle.dv_bag.specs.declared.response.Response.{Response}
use Rattle.dv_bag.specs.declared.state.State.{State}
use Rattle.dv_devs.specs.Behaviour.{Behaviour}
use Rattle.dv_conservative.specs.Channels.{all_channels}
use Rattle.dv_conservative.specs.Responses.{least_response}
use Rattle.dv_conservative.specs.World.{Job}
use Rattle.dv_react.specs.Components.{IsWaitOfRun}
use Rattle.dv_share.specs.Links.{RiseByPort, RiseBySource, links_of}
use Rattle.dv_share.specs.Indices.{AreRising}
use Rattle.dv_share.specs.Share.{FitsAt, flat_by, numbers_of}
use Rattle.dv_share.specs.declared.tables.Member.{Member}
use Rattle.dv_share.specs.declared.tables.Tables.{Tables}
use Rattle.dv_bag.specs.Responses.{ticks_of}
use Rattle.dv_proc.specs.Foreseeing.{IsOfHold}
use Rattle.dv_partition.specs.Groups.{Grouping, owner_of}
use Rattle.dv_plan.specs.declared.whole.Whole.{Whole}

-- the components and links of a flat model, as the tables of one process that has them all
abbrev pub tables_of : {S : Type 0} → Whole S → Tables S
tables_of w = record {
  limit = w.limit;
  members = w.members;
  models = w.models;
  links = links_of w.links.direct.items;
  entrances = links_of w.links.entrances.items;
  exits = links_of w.links.exits.items;
  outputs = w.outputs;
}

-- the job of a flat model with these inputs, in these processes
abbrev pub job_by : {S : Type 0} → (S → Behaviour) → Whole S → List Input → Grouping → Job
job_by behaviour w inputs g = record {
  limit = w.limit;
  horizon = w.horizon;
  flat = flat_by behaviour (tables_of w);
  outside = inputs_at w.limit w.ports inputs;
  processes = g.processes;
  owner = owner_of g;
  channels = all_channels (owner_of g) (links_of w.links.direct.items) g.processes;
  responses = λ p. least_response (owner_of g) p 0 (map ticks_of w.responses.items);
}

-- the model of a component exists, its first hold is one of the run, and its state is one that the model takes
pub record IsMember {S : Type 0} (fits : S → State → Type 0) (limit : ℕ) (models : List S) (m : Member) : Type 0 where
  pub model : m.model < length models
  pub wait : IsWaitOfRun limit m.start.wait
  pub fit : FitsAt fits models m.model m.start.state

-- components with rising numbers
pub record AreMembers {S : Type 0} (fits : S → State → Type 0) (limit : ℕ) (models : List S) (ms : List Member) : Type 0 where
  pub rise : AreRising (numbers_of ms)
  pub each : AllByRecursion (IsMember fits limit models) ms

-- A flat model that can be planned: the numbers of its components rise, its links are sorted by the ports that they lead from, its
-- responses are holds, and its bounds are those of the language.
pub record IsWhole {S : Type 0} (fits : S → State → Type 0) (w : Whole S) : Type 0 where
  pub members : AreMembers fits w.limit w.models.items w.members.items
  pub few : length w.members.items < 2 ^ 32
  pub direct : RiseBySource (links_of w.links.direct.items)
  pub entrances : RiseByPort (links_of w.links.entrances.items)
  pub exits : RiseBySource (links_of w.links.exits.items)
  pub holds : All (λ (r : Response). IsOfHold r) w.responses.items
  pub responses : length w.responses.items ≤ 2 ^ 32
  pub limit : w.limit ≤ greatest_limit
  pub horizon : w.horizon ≤ greatest_tick
