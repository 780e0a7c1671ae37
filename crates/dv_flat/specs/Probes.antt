-- Probes: each source, an output port of a component, sends a value of its own, and so does each input port of the root.
use Rattle.std.specs.Prelude.{ℕ, zero, suc, ◌+◌, ◌<◌, Bool, false, if◌then◌else◌, List, [], ◌∷◌, ◌++◌, length}
use Rattle.std.specs.Prelude.{map, fold, replicate, slice_index_or, slice_set, Option, Some, None, ℤ, pos, negsuc}
use Rattle.std.specs.List.{range_with_len}
use Rattle.dv_syntax.specs.Trees.{FileTree}
use Rattle.dv_bag.specs.Bag.{Counts, bag_at, with_copies}
use Rattle.dv_tree.specs.Instances.{Instance, instances, root_inputs, root_outputs}
use Rattle.dv_tree.specs.Routing.{arrives, leaves}
use Rattle.dv_flat.specs.Ends.{input_ports, output_count, port_at}
use Rattle.dv_flat.specs.Links.{direct_copies, exit_copies, links_from, root_ports}
use Rattle.dv_flat.specs.declared.arrivals.Arrival.{Arrival}
use Rattle.dv_flat.specs.declared.link.ComponentPort.{ComponentPort}
use Rattle.dv_flat.specs.declared.link.Link.{Link}

-- a probe once
abbrev pub probe : ℕ → Counts
probe t = (pos t, 1) ∷ []

-- for each of a number of ports its probe, from one on
abbrev pub probes_from : ℕ → ℕ → List Counts
probes_from first ports = map probe (range_with_len first ports)

-- no values at the output ports of components
abbrev pub silence : List Instance → List (List Counts)
silence is = map (λ (i : Instance). replicate (output_count i.model) []) is

-- with a probe at an output port
abbrev pub with_probe : List (List Counts) → ℕ → ComponentPort → List (List Counts)
with_probe sent t from =
    slice_set sent from.component
    (slice_set (slice_index_or sent from.component []) from.port
    (with_copies (pos t) 1 (bag_at (slice_index_or sent from.component []) from.port)))

-- with those of sources, from one on
abbrev pub with_probes : ℕ → List ComponentPort → List (List Counts) → List (List Counts)
with_probes t [] sent = sent
with_probes t (from ∷ froms) sent = with_probes (suc t) froms (with_probe sent t from)

-- an output port of a component
abbrev pub IsOutput : FileTree → ComponentPort → Type 0
IsOutput f from = from.port < slice_index_or (map (λ (i : Instance). output_count i.model) (instances f)) from.component 0

-- the probe of each source is its index; the probes of the root's inputs come after these
abbrev pub sent_probes : FileTree → List ComponentPort → List (List Counts)
sent_probes f sources = with_probes 0 sources (silence (instances f))

abbrev pub come_probes : FileTree → List ComponentPort → List Counts
come_probes f sources = probes_from (length sources) (length (root_inputs f))

-- what arrives and what leaves of all probes
abbrev pub arrived_probes : FileTree → List ComponentPort → List (List Counts)
arrived_probes f sources = arrives f (sent_probes f sources) (come_probes f sources)

abbrev pub left_probes : FileTree → List ComponentPort → List Counts
left_probes f sources = leaves f (sent_probes f sources)

-- copies that arrive at a target; there is no arrival of zero copies
abbrev pub arrival : {T : Type 0} → T → ℕ → Option (Arrival T)
arrival to zero = None
arrival to (suc n) = Some (record { to = to; copies = suc n })

-- one more arrival for the source of a probe; other values do not count
abbrev pub with_arrival : {T : Type 0} → ℤ → Arrival T → List (List (Arrival T)) → List (List (Arrival T))
with_arrival (pos t) a lists = slice_set lists t (slice_index_or lists t [] ++ a ∷ [])
with_arrival (negsuc n) a lists = lists

-- those of all probes in a bag
abbrev pub with_arrivals : {T : Type 0} → T → List (List (Arrival T)) → Counts → List (List (Arrival T))
with_arrivals to lists bag = fold (λ ls p. with_arrival p.0 (record { to = to; copies = p.1 }) ls) lists bag

-- with what arrived at an input port of a component
abbrev pub with_input : List (List Counts) → List (List (Arrival ComponentPort)) → ComponentPort → List (List (Arrival ComponentPort))
with_input received lists to = with_arrivals to lists (bag_at (slice_index_or received to.component []) to.port)

-- with what arrived at the input ports of one component
abbrev pub with_component : ℕ → List Counts → List (List (Arrival ComponentPort)) → List (List (Arrival ComponentPort))
with_component component received lists =
    fold (λ ls port. with_arrivals (port_at component port) ls (bag_at received port)) lists (range_with_len 0 (length received))

-- with what left at an output port of the root
abbrev pub with_output : List Counts → List (List (Arrival ℕ)) → ℕ → List (List (Arrival ℕ))
with_output leaving lists to = with_arrivals to lists (bag_at leaving to)

-- for each probe the input ports of components where it arrives, and the output ports of the root where it leaves
abbrev pub arrival_lists : FileTree → List ComponentPort → List (List (Arrival ComponentPort))
arrival_lists f sources =
    fold (with_input (arrived_probes f sources)) (replicate (length sources + length (root_inputs f)) []) (input_ports f)

abbrev pub departure_lists : FileTree → List ComponentPort → List (List (Arrival ℕ))
departure_lists f sources =
    fold (with_output (left_probes f sources)) (replicate (length sources) []) (root_ports (root_outputs f))

-- the links of one source
abbrev pub direct_from : FileTree → ComponentPort → List (Link ComponentPort ComponentPort)
direct_from f = links_from (direct_copies f) (input_ports f)

abbrev pub exit_from : FileTree → ComponentPort → List (Link ComponentPort ℕ)
exit_from f = links_from (exit_copies f) (root_ports (root_outputs f))

-- the sources at whose indices a flag is set
abbrev pub chosen_from : ℕ → List Bool → List ComponentPort → List ComponentPort
chosen_from k flags [] = []
chosen_from k flags (from ∷ froms) =
    if slice_index_or flags k false then from ∷ chosen_from (suc k) flags froms else chosen_from (suc k) flags froms

-- the links of a source, by its arrivals
abbrev pub links_to : {From To : Type 0} → From → List (Arrival To) → List (Link From To)
links_to {To = To} from arrivals = map (λ (a : Arrival To). record { from = from; to = a.to; copies = a.copies }) arrivals

-- those of all sources, whose lists of arrivals begin at an index
abbrev pub links_of : {From To : Type 0} → List (List (Arrival To)) → ℕ → List From → List (Link From To)
links_of lists k [] = []
links_of lists k (from ∷ froms) = links_to from (slice_index_or lists k []) ++ links_of lists (suc k) froms
