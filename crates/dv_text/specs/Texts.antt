-- The bytes of a trace: the text of each instant, one after the other, and the end.
use Rattle.std.specs.Prelude.{ℕ, zero, suc, ℤ, true, false, nat_eq, if◌then◌else◌, List, [], ◌∷◌, ◌++◌, map, slice_get, unwrap_or}
use Rattle.std.specs.Prelude.{codes, filter}
use Rattle.std.specs.Fmt.{decimal, signed_decimal}
use Rattle.std.specs.List.{flat_map}
use Rattle.std.specs.Ordering.{is_eq}
use Rattle.dv_time.specs.declared.time.Time.{Time}
use Rattle.dv_time.specs.Time.{end_of, is_before, time_cmp, time_of, time_text}
use Rattle.dv_tree.specs.Paths.{name_at}
use Rattle.dv_bag.specs.Bag.{Counts, values_of, size}
use Rattle.dv_bag.specs.Collections.{values_in}
use Rattle.dv_bag.specs.Part.{PartOf}
use Rattle.dv_bag.specs.Words.{fault_word, kind_word}
use Rattle.dv_bag.specs.declared.state.Datum.{Datum}
use Rattle.dv_bag.specs.declared.state.Datum.TheVariants as datum
use Rattle.dv_bag.specs.declared.entry.What.{What}
use Rattle.dv_bag.specs.declared.entry.What.TheVariants as what
use Rattle.dv_bag.specs.declared.entry.Entry.{Entry}
use Rattle.dv_bag.specs.declared.entry.Outer.{Outer}
use Rattle.dv_devs.specs.Network.{Network, components_at, part_of_instant}
use Rattle.dv_devs.specs.Clocks.{least_rank}
use Rattle.dv_text.specs.declared.writing.Ending.{Ending}
use Rattle.dv_text.specs.declared.writing.Ending.TheVariants.{Whole, Partial}

-- the names by which a component is written: its path, and the names that its model declares, in order
pub record ComponentNames : Type 0 where
  pub path : List ℕ
  pub phases : List (List ℕ)
  pub variables : List (List ℕ)
  pub outputs : List (List ℕ)

-- texts with commas between them
abbrev pub with_commas : List (List ℕ) → List ℕ
with_commas [] = []
with_commas (x ∷ []) = x
with_commas (x ∷ y ∷ xs) = x ++ (44 ∷ with_commas (y ∷ xs))

-- numbers with commas between them
abbrev pub numbers_text : List ℤ → List ℕ
numbers_text numbers = with_commas (map signed_decimal numbers)

-- the values of a bag, ascending, copies repeated
abbrev pub values_text : Counts → List ℕ
values_text b = numbers_text (values_of b)

-- the value of a state variable; a bag has its values ascending, copies repeated, and a queue from the first to the last
abbrev pub datum_text : Datum → List ℕ
datum_text (datum.Number n) = signed_decimal n
datum_text (datum.Flag true) = codes "true"
datum_text (datum.Flag false) = codes "false"
datum_text (datum.Held c) = 91 ∷ (numbers_text (values_in c) ++ (93 ∷ []))

-- ` name=value` for each state variable
abbrev pub variables_text : List (List ℕ) → List Datum → List ℕ
variables_text names [] = []
variables_text [] (d ∷ rest) = []
variables_text (n ∷ names) (d ∷ rest) = (32 ∷ n) ++ ((61 ∷ datum_text d) ++ variables_text names rest)

-- ` port:v,v` for a port with values
abbrev pub port_text : List ℕ → Counts → List ℕ
port_text name b = if nat_eq (size b) 0 then [] else (32 ∷ name) ++ (58 ∷ values_text b)

abbrev pub ports_text : List (List ℕ) → List Counts → List ℕ
ports_text names [] = []
ports_text [] (b ∷ bags) = []
ports_text (n ∷ names) (b ∷ bags) = port_text n b ++ ports_text names bags

-- ` >` and what was sent, if something was
abbrev pub sent_text : List ℕ → List ℕ
sent_text [] = []
sent_text (c ∷ cs) = 32 ∷ 62 ∷ c ∷ cs

abbrev pub what_text : ComponentNames → What → List ℕ
what_text names (what.Transition k s) = kind_word k ++ ((32 ∷ name_at names.phases s.phase) ++ variables_text names.variables s.variables)
what_text names (what.Fault f) = codes "fault " ++ fault_word f

abbrev pub no_names : ComponentNames
no_names = record { path = []; phases = []; variables = []; outputs = [] }

abbrev pub names_at : List ComponentNames → ℕ → ComponentNames
names_at all k = unwrap_or (slice_get all k) no_names

-- the line of an entry
abbrev pub entry_text : ComponentNames → Entry → List ℕ
entry_text names e =
    time_text e.time ++ ((32 ∷ names.path) ++ ((32 ∷ what_text names e.what) ++ (sent_text (ports_text names.outputs e.sent) ++ (10 ∷ []))))

-- what left at one port
abbrev pub outer_text : List (List ℕ) → Outer → List ℕ
outer_text outputs o = port_text (name_at outputs o.port) o.values

-- the line of what left at an instant, port after port, if something did
abbrev pub outers_text : List (List ℕ) → Time → List Outer → List ℕ
outers_text outputs t [] = []
outers_text outputs t (o ∷ os) = time_text t ++ (codes " out" ++ (flat_map (outer_text outputs) (o ∷ os) ++ (10 ∷ [])))

-- the lines of an instant: those of its entries, and then the one of what left
abbrev pub instant_text : List ComponentNames → List (List ℕ) → Time → PartOf → List ℕ
instant_text all outputs t p = flat_map (λ (e : Entry). entry_text (names_at all e.component) e) p.entries ++ outers_text outputs t p.outer

-- what is at one time in a part
abbrev pub only_at : Time → PartOf → PartOf
only_at t p = record {
  entries = filter (λ (e : Entry). is_eq (time_cmp e.time t)) p.entries;
  outer = filter (λ (o : Outer). is_eq (time_cmp o.time t)) p.outer;
}

-- ascending times without repetition, with one more
abbrev pub with_time : Time → List Time → List Time
with_time t [] = t ∷ []
with_time t (u ∷ us) = if is_before t u then t ∷ u ∷ us else (if is_before u t then u ∷ with_time t us else u ∷ us)

abbrev pub ascending : List Time → List Time
ascending [] = []
ascending (t ∷ ts) = with_time t (ascending ts)

-- the times of a part, ascending, without repetition
abbrev pub times_of : PartOf → List Time
times_of p = ascending (map (λ (e : Entry). e.time) p.entries ++ map (λ (o : Outer). o.time) p.outer)

-- the lines of a part: those of each of its times, one time after the other
abbrev pub part_text : List ComponentNames → List (List ℕ) → PartOf → List ℕ
part_text all outputs p = flat_map (λ t. instant_text all outputs t (only_at t p)) (times_of p)

-- the lines of all instants of a run before a rank, one instant after the other
abbrev pub instants_text : {I : Type 0} → List ComponentNames → List (List ℕ) → (limit : ℕ) → Network I → (ℕ → I) → ℕ → List ℕ
instants_text all outputs limit net inputs zero = []
instants_text all outputs limit net inputs (suc n) =
    instants_text all outputs limit net inputs n
    ++ instant_text all outputs (time_of limit n) (part_of_instant limit net n (inputs n) (components_at limit net inputs n))

-- `process 0 clock 5.0`: the clock of a process
abbrev pub clock_text : ℕ → Time → List ℕ
clock_text process t = codes "process " ++ (decimal process ++ (codes " clock " ++ (time_text t ++ (10 ∷ []))))

-- the clocks of the processes from this number on
abbrev pub clocks_text : ℕ → List Time → List ℕ
clocks_text process [] = []
clocks_text process (t ∷ ts) = clock_text process t ++ clocks_text (suc process) ts

-- how the text of a run that is not whole ends
abbrev pub partial_ending : List Time → List ℕ
partial_ending clocks = clocks_text 0 clocks ++ (codes "partial" ++ (10 ∷ []))

-- how a text ends
abbrev pub ending_text : Ending → List ℕ
ending_text (Whole horizon) = codes "whole " ++ (decimal horizon ++ (10 ∷ []))
ending_text (Partial clocks) = partial_ending clocks.items

-- the text of a run of a network to a horizon
abbrev pub whole_text : {I : Type 0} → List ComponentNames → List (List ℕ) → (limit : ℕ) → Network I → (ℕ → I) → (horizon : ℕ) → List ℕ
whole_text all outputs limit net inputs horizon =
    instants_text all outputs limit net inputs (end_of limit horizon) ++ ending_text (Whole horizon)

-- the text of a run of a network that reached these clocks: the lines of all instants before the least one
abbrev pub partial_text : {I : Type 0} → List ComponentNames → List (List ℕ) → (limit : ℕ) → Network I → (ℕ → I) → List Time → List ℕ
partial_text all outputs limit net inputs clocks =
    instants_text all outputs limit net inputs (least_rank limit clocks) ++ partial_ending clocks
