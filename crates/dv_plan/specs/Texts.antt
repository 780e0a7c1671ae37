-- The text of a plan: JSON in compact form, with sorted keys.
use Rattle.std.specs.Prelude.{ℕ, zero, suc, List, [], ◌∷◌, ◌++◌, codes, slice_get, unwrap_or, Option, Some, None}
use Rattle.std.specs.Fmt.{decimal}
use Rattle.serde_json.specs.Data.{string}
use Rattle.serde_json.specs.Written.{compact_text}
use Rattle.dv_conservative.specs.Links.{Link}
use Rattle.dv_partition.specs.Groups.{Grouping, members_of}
use Rattle.dv_share.specs.Links.{links_of}
use Rattle.dv_plan.specs.declared.links.Links.{Links}
use Rattle.dv_plan.specs.declared.text.Owner.{Owner}
use Rattle.dv_plan.specs.declared.text.Owner.TheVariants.{Root, Component}

-- the names that a plan prints: the number of components, the path of each, and the names of ports by number
pub record PlanNames : Type 0 where
  pub components : ℕ
  pub path : ℕ → List ℕ
  pub input : ℕ → ℕ → List ℕ
  pub output : ℕ → ℕ → List ℕ
  pub root_input : ℕ → List ℕ
  pub root_output : ℕ → List ℕ

-- links of a flat model: from component to component, from the outside, and to the outside
pub record PlanLinks : Type 0 where
  pub direct : List Link
  pub entrances : List Link
  pub exits : List Link

abbrev pub plan_links : Links → PlanLinks
plan_links l = record {
  direct = links_of l.direct.items;
  entrances = links_of l.entrances.items;
  exits = links_of l.exits.items;
}

-- a text in quotes, with escapes
unfoldable pub quoted : List ℕ → List ℕ
quoted text = compact_text (string text)

-- what comes before the value at an index of a list
abbrev pub front : ℕ → List ℕ
front zero = codes "["
front (suc index) = codes ","

-- what comes after all values of a list, by their count
abbrev pub back : ℕ → List ℕ
back zero = codes "[]"
back (suc count) = codes "]"

-- the paths of so many components, from a number on, with the end of their list
abbrev pub paths_text : PlanNames → ℕ → ℕ → List ℕ
paths_text names k zero = back k
paths_text names k (suc left) = front k ++ (quoted (names.path k) ++ paths_text names (suc k) left)

-- `path.port`
abbrev pub port_text : PlanNames → ℕ → List ℕ → List ℕ
port_text names component port = names.path component ++ (codes "." ++ port)

-- the port from which a link leads
abbrev pub source_text : PlanNames → Owner → Link → List ℕ
source_text names Root l = names.root_input l.from_port
source_text names Component l = port_text names l.from (names.output l.from l.from_port)

-- the port to which a link leads
abbrev pub target_text : PlanNames → Owner → Link → List ℕ
target_text names Root l = names.root_output l.to_port
target_text names Component l = port_text names l.to (names.input l.to l.to_port)

-- `{"copies":1,"from":"a.y","to":"b.x"}`
abbrev pub link_text : List ℕ → List ℕ → ℕ → List ℕ
link_text from to copies =
    codes "{\"copies\":" ++ (decimal copies ++ (codes ",\"from\":" ++ (quoted from ++ (codes ",\"to\":" ++ (quoted to ++ codes "}")))))

-- links from an index of their list on, with the end of the list
abbrev pub links_text : PlanNames → Owner → Owner → ℕ → List Link → List ℕ
links_text names source target index [] = back index
links_text names source target index (l ∷ ls) =
    front index
    ++ (link_text (source_text names source l) (target_text names target l) l.copies ++ links_text names source target (suc index) ls)

-- the paths of components from an index of their list on, with the end of the list
abbrev pub members_text : PlanNames → ℕ → List ℕ → List ℕ
members_text names index [] = back index
members_text names index (k ∷ ks) = front index ++ (quoted (names.path k) ++ members_text names (suc index) ks)

-- a response in ticks, or `null` if it is never or unknown
abbrev pub response_text : Option ℕ → List ℕ
response_text (Some ticks) = decimal ticks
response_text None = codes "null"

-- the response of a process
abbrev pub response_of : List (Option ℕ) → ℕ → Option ℕ
response_of responses p = unwrap_or (slice_get responses p) None

-- `{"components":["a"],"response":5}`
abbrev pub process_text : PlanNames → List ℕ → Option ℕ → List ℕ
process_text names members response =
    codes "{\"components\":" ++ (members_text names 0 members ++ (codes ",\"response\":" ++ (response_text response ++ codes "}")))

-- so many processes, from a number on, with the end of their list
abbrev pub processes_text : PlanNames → Grouping → List (Option ℕ) → ℕ → ℕ → List ℕ
processes_text names groups responses p zero = back p
processes_text names groups responses p (suc left) =
    front p
    ++ (process_text names (members_of groups p) (response_of responses p) ++ processes_text names groups responses (suc p) left)

-- the text of a plan
abbrev pub plan_text : PlanNames → PlanLinks → Grouping → List (Option ℕ) → List ℕ
plan_text names links groups responses =
    codes "{\"components\":"
    ++ (paths_text names 0 names.components
    ++ (codes ",\"entries\":"
    ++ (links_text names Root Component 0 links.entrances
    ++ (codes ",\"exits\":"
    ++ (links_text names Component Root 0 links.exits
    ++ (codes ",\"links\":"
    ++ (links_text names Component Component 0 links.direct
    ++ (codes ",\"processes\":" ++ (processes_text names groups responses 0 groups.processes ++ codes "}")))))))))
