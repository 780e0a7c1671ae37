-- The links that are made of arrivals of probes are those of the text.
use Rattle.std.proofs.Common.{◌≡◌, ℕ, suc, ◌+◌, ◌<◌, List, [], ◌∷◌, length, map, get_or, replicate, pos, ap}
use Rattle.std.proofs.Common.{sym, ◌∙◌, subst, arith}
use Rattle.std.specs.Prelude.{fold}
use Rattle.std.specs.List.{All, flat_map, range_with_len}
use Rattle.std.proofs.lemmas.List.Elements.{All-append, All-map, All-nil}
use Rattle.std.proofs.lemmas.List.FromFn.{get_or-range_with_len, length-range_with_len}
use Rattle.dv_syntax.specs.Trees.{AtomicTree, FileTree}
use Rattle.dv_bag.specs.Bag.{Counts, bag_at, count_of}
use Rattle.dv_tree.specs.Instances.{Instance, instances, root_inputs, root_outputs}
use Rattle.dv_tree.proofs.Limits.{length-leaves}
use Rattle.dv_tree.proofs.Received.{ports_received}
use Rattle.dv_flat.specs.Ends.{input_count, input_ports, output_count, output_ports, port_at, ports_from}
use Rattle.dv_flat.specs.Links.{direct_copies, entry_copies, entry_links, exit_copies, root_ports}
use Rattle.dv_flat.specs.Probes.{IsOutput, arrival_lists, arrived_probes, come_probes, departure_lists, direct_from, exit_from}
use Rattle.dv_flat.specs.Probes.{left_probes, links_of, sent_probes, with_input, with_output}
use Rattle.dv_flat.specs.declared.arrivals.Arrival.{Arrival}
use Rattle.dv_flat.specs.declared.link.ComponentPort.{ComponentPort}
use Rattle.dv_flat.specs.declared.link.Link.{Link}
use Rattle.dv_flat.proofs.ArrivalLists.{length-all, links_found}
use Rattle.dv_flat.proofs.ProbeSums.{arrived_bag, entry_found, exit_found, left_bag, output_found}

module _ (f : FileTree) (sources : List ComponentPort) (valid : All (IsOutput f) sources) where
  -- what stands at an input port
  abbrev at_input : ComponentPort → Counts
  at_input to = bag_at (get_or (arrived_probes f sources) to.component []) to.port

  pub length-arrival_lists : length (arrival_lists f sources) ≡ length sources + length (root_inputs f)
  length-arrival_lists =
      length-all at_input (λ to. arrived_bag f sources valid to.component to.port) (input_ports f)
      (length sources + length (root_inputs f))

  pub length-departure_lists : length (departure_lists f sources) ≡ length sources
  length-departure_lists =
      length-all (bag_at (left_probes f sources)) (left_bag f sources valid) (root_ports (root_outputs f)) (length sources)

  direct_found : links_of (arrival_lists f sources) 0 sources ≡ flat_map (direct_from f) sources
  direct_found =
      links_found (direct_copies f) (input_ports f) at_input (λ to. arrived_bag f sources valid to.component to.port)
      (length sources + length (root_inputs f)) 0 sources (port_at 0 0) (omega arith)
      (λ j within to.
      ap (λ t. count_of (pos t) (at_input to)) (let same : 0 + j ≡ j = omega arith in same)
      ∙ output_found f sources valid j (port_at 0 0) to.component to.port within)

  entry_found_all : links_of (arrival_lists f sources) (length sources) (root_ports (root_inputs f)) ≡ entry_links f
  entry_found_all =
      let ports = length (root_inputs f) in
      let long : length (root_ports (root_inputs f)) ≡ ports = length-range_with_len 0 ports in
      links_found (entry_copies f) (input_ports f) at_input (λ to. arrived_bag f sources valid to.component to.port)
      (length sources + ports) (length sources) (root_ports (root_inputs f)) 0 (omega (arith, long))
      (λ j early to.
      let within : j < ports = omega (arith, early, long) in
      let here : get_or (root_ports (root_inputs f)) j 0 ≡ j =
      get_or-range_with_len 0 ports j 0 within ∙ (let same : 0 + j ≡ j = omega arith in same) in
      entry_found f sources valid j to.component to.port within ∙ ap (λ from. entry_copies f from to) (sym here))

  exit_found_all : links_of (departure_lists f sources) 0 sources ≡ flat_map (exit_from f) sources
  exit_found_all =
      links_found (exit_copies f) (root_ports (root_outputs f)) (bag_at (left_probes f sources)) (left_bag f sources valid)
      (length sources) 0 sources (port_at 0 0) (omega arith)
      (λ j within to.
      ap (λ t. count_of (pos t) (bag_at (left_probes f sources) to)) (let same : 0 + j ≡ j = omega arith in same)
      ∙ exit_found f sources valid j (port_at 0 0) to within)

  -- what the code makes of them
  pub arrival_lists-made : (n : ℕ) (received : List (List Counts)) (lists : List (List (Arrival ComponentPort))) →
      n ≡ length sources + length (root_inputs f) → received ≡ arrived_probes f sources →
      lists ≡ fold (with_input received) (replicate n []) (input_ports f) → lists ≡ arrival_lists f sources
  arrival_lists-made n received lists many of made =
      let none = replicate (length sources + length (root_inputs f)) [] in
      made
      ∙ (ap (λ k. fold (with_input received) (replicate k []) (input_ports f)) many
      ∙ ap (λ bags. fold (with_input bags) none (input_ports f)) of)

  pub departure_lists-made : (leaving : List Counts) (lists : List (List (Arrival ℕ))) → leaving ≡ left_probes f sources →
      lists ≡ fold (with_output leaving) (replicate (length sources) []) (range_with_len 0 (length leaving)) →
      lists ≡ departure_lists f sources
  departure_lists-made leaving lists of made =
      let none = replicate (length sources) [] in
      made
      ∙ (ap (λ bags. fold (with_output bags) none (range_with_len 0 (length bags))) of
      ∙ ap (λ k. fold (with_output (left_probes f sources)) none (range_with_len 0 k)) (length-leaves f (sent_probes f sources)))

  pub direct_links-made : (lists : List (List (Arrival ComponentPort))) (links : List (Link ComponentPort ComponentPort)) →
      lists ≡ arrival_lists f sources → links ≡ links_of lists 0 sources → links ≡ flat_map (direct_from f) sources
  direct_links-made lists links are made = made ∙ (ap (λ ls. links_of ls 0 sources) are ∙ direct_found)

  pub entry_links-made : (inputs : List ℕ) (lists : List (List (Arrival ComponentPort))) (links : List (Link ℕ ComponentPort)) →
      inputs ≡ root_ports (root_inputs f) → lists ≡ arrival_lists f sources → links ≡ links_of lists (length sources) inputs →
      links ≡ entry_links f
  entry_links-made inputs lists links froms are made =
      made
      ∙ (ap (λ ls. links_of ls (length sources) inputs) are
      ∙ (ap (links_of (arrival_lists f sources) (length sources)) froms ∙ entry_found_all))

  pub exit_links-made : (lists : List (List (Arrival ℕ))) (links : List (Link ComponentPort ℕ)) →
      lists ≡ departure_lists f sources → links ≡ links_of lists 0 sources → links ≡ flat_map (exit_from f) sources
  exit_links-made lists links are made = made ∙ (ap (λ ls. links_of ls 0 sources) are ∙ exit_found_all)

-- what holds of the ports that components have holds of all ports
ports_all : (P : ComponentPort → Type 0) (count : AtomicTree → ℕ) (k : ℕ) (is : List Instance) →
    ((c p : ℕ) → c < length is → p < get_or (map (λ (i : Instance). count i.model) is) c 0 → P (port_at (k + c) p)) →
    All P (ports_from k count is)
ports_all P count k [] h = All-nil P
ports_all P count k (i ∷ is) h =
    All-append P (map (port_at k) (range_with_len 0 (count i.model))) (ports_from (suc k) count is)
    (All-map P (port_at k) (range_with_len 0 (count i.model))
    (λ j d early.
    let within : j < count i.model = omega (arith, early, length-range_with_len 0 (count i.model)) in
    let here : j ≡ get_or (range_with_len 0 (count i.model)) j d =
    sym (get_or-range_with_len 0 (count i.model) j d within ∙ (let same : 0 + j ≡ j = omega arith in same)) in
    let At : ℕ → Type 0 = λ p. P (port_at k p) in
    let First : ℕ → Type 0 = λ c. P (port_at c j) in
    subst At here (subst First (let same : k + 0 ≡ k = omega arith in same) (h 0 j (omega arith) within))))
    (ports_all P count (suc k) is
    (λ c p early within.
    let At : ℕ → Type 0 = λ n. P (port_at n p) in
    subst At (let same : k + suc c ≡ suc k + c = omega arith in same) (h (suc c) p (omega (arith, early)) within)))

-- the output ports are those that there are
pub outputs_valid : (f : FileTree) → All (IsOutput f) (output_ports f)
outputs_valid f = ports_all (IsOutput f) output_count 0 (instances f)
    (λ c p early there.
    let At : ℕ → Type 0 = λ k. IsOutput f (port_at k p) in
    subst At (let same : c ≡ 0 + c = omega arith in same) there)

-- as many bags are received as each component has input ports
pub inputs_received : (f : FileTree) (sources : List ComponentPort) (received : List (List Counts)) → received ≡ arrived_probes f sources →
    map length received ≡ map (λ (i : Instance). input_count i.model) (instances f)
inputs_received f sources received of = ap (map length) of ∙ ports_received f (sent_probes f sources) (come_probes f sources)
