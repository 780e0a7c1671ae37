-- What each step of planning makes.
use Rattle.std.specs.Prelude.{◌≡◌, ℕ, Bool, ◌&&◌, nat_eq, nat_le, nat_lt, List, [], filter, map, slice_get, slice_index_or, Option, Some}
use Rattle.std.specs.List.{list_any, range_with_len}
use Rattle.dv_bag.specs.declared.inputs.Input.{Input}
use Rattle.dv_conservative.specs.Channels.{all_channels}
use Rattle.dv_conservative.specs.Links.{Link}
use Rattle.dv_conservative.specs.Process.{Outgoing}
use Rattle.dv_conservative.specs.Responses.{least_response}
use Rattle.dv_conservative.specs.World.{Job, incoming_from, outgoing_from}
use Rattle.dv_share.specs.Links.{RiseByPort, RiseBySource, links_of}
use Rattle.dv_share.specs.declared.tables.Member.{Member}
use Rattle.dv_bag.specs.Responses.{ticks_of}
use Rattle.dv_local.specs.Shares.{outgoing_of}
use Rattle.dv_local.specs.declared.share.Share.{Share}
use Rattle.dv_partition.specs.Groups.{Grouping, owner_of}
use Rattle.dv_proc.specs.Channels.{meant_channel}
use Rattle.dv_plan.specs.Cuts.{CutOf, between, entrances_to, exits_from, owned_by}
use Rattle.dv_plan.specs.declared.channels.Away.{Away}
use Rattle.dv_plan.specs.declared.share.Common.{Common}
use Rattle.dv_plan.specs.declared.whole.Whole.{Whole}

-- whether one of the components has this number and this input port
abbrev pub is_port : List Member → ℕ → ℕ → Bool
is_port ms k port = list_any (λ (m : Member). nat_eq m.number k && nat_lt port m.inputs) ms

-- whether a link leads values to one of the components
abbrev pub leads : List Member → Link → Bool
leads ms l = nat_lt 0 l.copies && is_port ms l.to l.to_port

-- whether a link leads to one of the components from an input port of the model
abbrev pub is_led : List Member → List Link → ℕ → Bool
is_led ms entrances port = list_any (λ (l : Link). nat_eq l.from_port port && leads ms l) entrances

-- whether an input comes to one of the components: its microstep is within the limit, and a link leads there from its port
abbrev pub comes_here : (limit ports : ℕ) → List Member → List Link → Input → Bool
comes_here limit ports ms entrances i = nat_le i.time.micro limit && (nat_lt i.port ports && is_led ms entrances i.port)

-- the inputs that come to one of the components
abbrev pub led_inputs : (limit ports : ℕ) → List Member → List Link → List Input → List Input
led_inputs limit ports ms entrances inputs = filter (comes_here limit ports ms entrances) inputs

-- the components of a process
abbrev pub members_of : Grouping → ℕ → List Member → List Member
members_of g p ms = filter (λ (m : Member). owned_by g p m.number) ms

-- a channel that leads away from a process, with its links between components
abbrev pub way_of : CutOf → ℕ → Away → Outgoing
way_of c p a = record { number = a.number; links = between c p a.target }

-- A share is made from the components of a process, their models, and what all shares have in common.
pub record IsMadeOf {S : Type 0} (c : Common) (p : ℕ) (ms : List Member) (code : List S) (s : Share S) : Type 0 where
  pub limit : s.tables.limit ≡ c.limit
  pub horizon : s.horizon ≡ c.horizon
  pub members : s.tables.members.items ≡ ms
  pub models : s.tables.models.items ≡ code
  pub links : s.tables.links ≡ between c.cut.now p p
  pub entrances : s.tables.entrances ≡ entrances_to c.cut.now p
  pub exits : s.tables.exits ≡ exits_from c.cut.now p
  pub outputs : s.tables.outputs ≡ c.outputs
  pub ports : s.ports ≡ c.ports
  pub response : (d : Option ℕ) → ticks_of s.response ≡ slice_index_or (map ticks_of c.responses.now) p d
  pub sources : s.sources.items ≡ incoming_from p 0 (map meant_channel c.links.now)
  pub ways : (job : Job) → job.owner ≡ owner_of c.cut.now.grouping → job.flat.links ≡ c.cut.now.direct
      → map outgoing_of s.ways.items ≡ outgoing_from job p 0 (map meant_channel c.links.now)
  pub inputs : s.inputs ≡ led_inputs c.limit c.ports ms (entrances_to c.cut.now p) c.inputs.now

-- this holds of each of several shares and the components of its process
abbrev pub AreMade : {S : Type 0} → Common → List (List Member) → List S → List (Share S) → Type 0
AreMade {S} c lists models shares =
    (p : ℕ) (s : Share S) → slice_get shares p ≡ Some s → IsMadeOf c p (slice_index_or lists p []) models s

-- the links of a cut are sorted by the ports that they lead from
pub record Rises (c : CutOf) : Type 0 where
  pub direct : RiseBySource c.direct
  pub entrances : RiseByPort c.entrances
  pub exits : RiseBySource c.exits

-- the links of a whole, cut to groups
abbrev pub cut_of : {S : Type 0} → Whole S → Grouping → CutOf
cut_of w g = record {
  grouping = g;
  direct = links_of w.links.direct.items;
  entrances = links_of w.links.entrances.items;
  exits = links_of w.links.exits.items;
}

-- What all shares have in common, for a flat model in groups with its inputs.
pub record IsCommonOf {S : Type 0} (w : Whole S) (played : List Input) (g : Grouping) (c : Common) : Type 0 where
  pub limit : c.limit ≡ w.limit
  pub horizon : c.horizon ≡ w.horizon
  pub ports : c.ports ≡ w.ports
  pub outputs : c.outputs ≡ w.outputs
  pub cut : c.cut.now ≡ cut_of w g
  pub links : map meant_channel c.links.now ≡ all_channels (owner_of g) (links_of w.links.direct.items) g.processes
  pub responses : map ticks_of c.responses.now
      ≡ map (λ p. least_response (owner_of g) p 0 (map ticks_of w.responses.items)) (range_with_len 0 g.processes)
  pub inputs : c.inputs.now ≡ played
