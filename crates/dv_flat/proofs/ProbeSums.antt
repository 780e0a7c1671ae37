-- How often a probe arrives: as often as the value of its source arrives where that alone sends.
use Rattle.std.proofs.Common.{◌≡◌, ℕ, zero, suc, ◌+◌, ◌*◌, ◌<◌, ◌≤◌, Bool, ltb, map, true, false, eqb, List, []}
use Rattle.std.proofs.Common.{◌∷◌, length, get_or, pos, refl, ap, sym, ◌∙◌, arith, ⊎_elim}
use Rattle.std.specs.List.{All}
use Rattle.std.proofs.lemmas.Bool.{cases_Bool, eqb-true, eqb-false, lt-ltb}
use Rattle.std.proofs.lemmas.Bool.Decides.{nat_tests}
use Rattle.std.proofs.lemmas.Int.{ints}
use Rattle.std.proofs.lemmas.List.FromFn.{get_or-range_with_len, get_or-map-range_with_len, length-range_with_len}
use Rattle.dv_syntax.specs.Trees.{FileTree}
use Rattle.dv_bag.specs.Bag.{Counts, IsBag, bag_at, count_of}
use Rattle.dv_bag.specs.BagLists.{AreBags}
use Rattle.dv_bag.proofs.Monoid.{count_kept, count_with_other, count_with_same}
use Rattle.dv_tree.specs.Instances.{Instance, instances, root_inputs}
use Rattle.dv_flat.specs.Carried.{same_port, sent_at}
use Rattle.dv_flat.specs.Ends.{output_count, output_ports, port_at}
use Rattle.dv_flat.specs.Links.{direct_copies, entry_copies, exit_copies, root_ports}
use Rattle.dv_flat.specs.Probes.{IsOutput, arrived_probes, come_probes, left_probes, probe, probes_from, sent_probes}
use Rattle.dv_flat.specs.declared.link.ComponentPort.{ComponentPort}
use Rattle.dv_flat.proofs.Capped.{total_by, total_by-same, total_by-zero}
use Rattle.dv_flat.proofs.Picked.{occurs_once, picked, same_port-true, tick}
use Rattle.dv_flat.proofs.Superposed.{arrives_superposed, entry, everybody, leaves_superposed, output}
use Rattle.dv_flat.proofs.ProbeCounts.{probes_are_bags, sent_at_source, sent_nowhere}

-- probes are bags
probes_bag : (first ports port : ℕ) → IsBag (bag_at (probes_from first ports) port)
probes_bag first zero port = tt
probes_bag first (suc ports) zero = (omega arith, omega arith, tt)
probes_bag first (suc ports) (suc port) = probes_bag (first + 1) ports port

-- a probe is itself once, and no other
probe_ticks : (j t : ℕ) → count_of (pos t) (probe j) ≡ tick (eqb j t)
probe_ticks j t =
    ⊎_elim
    (λ (e : eqb j t ≡ true).
    ap (λ n. count_of (pos t) (probe n)) (eqb-true j t e) ∙ (count_with_same (pos t) 1 [] tt ∙ ap tick (sym e)))
    (λ (e : eqb j t ≡ false). count_with_other (pos t) (pos j) 1 [] (λ same. eqb-false j t e (omega (arith, ints)))
    ∙ ap tick (sym e))
    (cases_Bool (eqb j t))

-- a sum in which one index counts, or none
none_chosen : {X : Type 0} (g w : X → ℕ) (xs : List X) (d : X) → ((j : ℕ) → j < length xs → w (get_or xs j d) ≡ 0) →
    total_by (λ x. g x * w x) xs ≡ 0
none_chosen g w [] d h = refl
none_chosen g w (x ∷ xs) d h =
    omega (arith, ap (λ n. g x * n) (h 0 (omega arith)), none_chosen g w xs d (λ j within. h (suc j) (omega (arith, within))))

one_chosen : {X : Type 0} (g w : X → ℕ) (xs : List X) (d : X) (i : ℕ) → i < length xs →
    ((j : ℕ) → j < length xs → w (get_or xs j d) ≡ tick (eqb j i)) → total_by (λ x. g x * w x) xs ≡ g (get_or xs i d)
one_chosen g w [] d i within h = absurd (omega (arith, within))
one_chosen g w (x ∷ xs) d zero within h =
    omega (
      arith,
      ap (λ n. g x * n) (h 0 (omega arith)),
      none_chosen g w xs d
          (λ j early. h (suc j) (omega (arith, early))
          ∙ (let other : tick (eqb (suc j) 0) ≡ 0 = grind (arith, nat_tests) in other)),
    )
one_chosen g w (x ∷ xs) d (suc i) within h =
    omega (
      arith,
      ap (λ n. g x * n) (h 0 (omega arith) ∙ (let other : tick (eqb 0 (suc i)) ≡ 0 = grind (arith, nat_tests) in other)),
      one_chosen g w xs d i (omega (arith, within))
          (λ j early.
          h (suc j) (omega (arith, early))
          ∙ (let same : tick (eqb (suc j) (suc i)) ≡ tick (eqb j i) = grind (arith, nat_tests) in same)),
    )

module _ (f : FileTree) (sources : List ComponentPort) (valid : All (IsOutput f) sources) where
  abbrev sent : List (List Counts)
  sent = sent_probes f sources

  come_bags : AreBags (come_probes f sources)
  come_bags = probes_bag (length sources) (length (root_inputs f))

  -- the probes of the root's inputs, by index
  entry_ticks : (t j d : ℕ) → j < length (root_inputs f) →
      count_of (pos t) (bag_at (come_probes f sources) (get_or (root_ports (root_inputs f)) j d))
      ≡ tick (eqb (length sources + j) t)
  entry_ticks t j d within =
      let n = length (root_inputs f) in
      let first = length sources in
      ap (count_of (pos t))
      (ap (bag_at (come_probes f sources)) (get_or-range_with_len 0 n j d within ∙ (let same : 0 + j ≡ j = omega arith in same))
      ∙ get_or-map-range_with_len probe first n j (first + j) [] within refl)
      ∙ probe_ticks (first + j) t

  -- of a number at each output that is counted by a source's probe, that of the source is left
  source_chosen : (g : ComponentPort → ℕ) (t : ℕ) (d : ComponentPort) → t < length sources →
      total_by (λ x. g x * count_of (pos t) (sent_at sent x)) (output_ports f) ≡ g (get_or sources t d)
  source_chosen g t d within =
      let from = get_or sources t d in
      let test : ComponentPort → Bool = λ x. same_port x from in
      let there : tick (ltb from.port (get_or (map (λ (i : Instance). output_count i.model) (instances f)) from.component 0))
      ≡ 1 =
      ap tick (lt-ltb _ _ (valid t d within)) in
      total_by-same (λ x. g x * count_of (pos t) (sent_at sent x)) (λ x. tick (test x) * g x)
      (λ x. ap (λ n. g x * n) (sent_at_source f sources valid t d x within) ∙ omega arith) (output_ports f)
      ∙ (picked test from (λ x e. same_port-true x from e) g (output_ports f)
      ∙ (ap (λ n. n * g from) (occurs_once output_count (instances f) from.component from.port ∙ there) ∙ omega arith))

  no_source : (g : ComponentPort → ℕ) (t : ℕ) → length sources ≤ t →
      total_by (λ x. g x * count_of (pos t) (sent_at sent x)) (output_ports f) ≡ 0
  no_source g t past =
      total_by-zero (λ x. g x * count_of (pos t) (sent_at sent x))
      (λ x. ap (λ n. g x * n) (sent_nowhere f sources valid t x past) ∙ omega arith) (output_ports f)

  -- the probe of a source arrives as often as its value alone
  pub output_found : (t : ℕ) (d : ComponentPort) (k port : ℕ) → t < length sources →
      count_of (pos t) (bag_at (get_or (arrived_probes f sources) k []) port)
      ≡ direct_copies f (get_or sources t d) (port_at k port)
  output_found t d k port within =
      let put = arrives_superposed f sent (probes_are_bags f sources valid) (come_probes f sources) come_bags k port in
      let from = get_or sources t d in
      let outs = source_chosen (λ x. direct_copies f x (port_at k port)) t d within in
      let ins =
      none_chosen (λ x. entry_copies f x (port_at k port)) (λ x. count_of (pos t) (bag_at (come_probes f sources) x))
      (root_ports (root_inputs f)) 0
      (λ j early.
      entry_ticks t j 0 (omega (arith, early, length-range_with_len 0 (length (root_inputs f))))
      ∙ (let other : tick (eqb (length sources + j) t) ≡ 0 = grind (arith, nat_tests) in other)) in
      omega (arith, put.counts (pos t), outs, ins, count_kept (pos 0) _ (put.bags (output from)))

  -- and so does that of an input of the root
  pub entry_found : (i k port : ℕ) → i < length (root_inputs f) →
      count_of (pos (length sources + i)) (bag_at (get_or (arrived_probes f sources) k []) port)
      ≡ entry_copies f i (port_at k port)
  entry_found i k port within =
      let t = length sources + i in
      let ports = root_ports (root_inputs f) in
      let long : length ports ≡ length (root_inputs f) = length-range_with_len 0 (length (root_inputs f)) in
      let put = arrives_superposed f sent (probes_are_bags f sources valid) (come_probes f sources) come_bags k port in
      let outs = no_source (λ x. direct_copies f x (port_at k port)) t (omega arith) in
      let ins =
      one_chosen (λ x. entry_copies f x (port_at k port)) (λ x. count_of (pos t) (bag_at (come_probes f sources) x)) ports 0 i
      (omega (arith, within, long))
      (λ j early.
      entry_ticks t j 0 (omega (arith, early, long))
      ∙ (let same : tick (eqb (length sources + j) t) ≡ tick (eqb j i) = grind (arith, nat_tests) in same)) in
      let here : get_or ports i 0 ≡ i =
      get_or-range_with_len 0 (length (root_inputs f)) i 0 within ∙ (let same : 0 + i ≡ i = omega arith in same) in
      omega (
        arith,
        put.counts (pos t),
        outs,
        ins,
        ap (λ x. entry_copies f x (port_at k port)) here,
        count_kept (pos 0) _ (put.bags (entry i)),
      )

  -- the probe of a source leaves as often
  pub exit_found : (t : ℕ) (d : ComponentPort) (port : ℕ) → t < length sources →
      count_of (pos t) (bag_at (left_probes f sources) port) ≡ exit_copies f (get_or sources t d) port
  exit_found t d port within =
      let put = leaves_superposed f sent (probes_are_bags f sources valid) port in
      let from = get_or sources t d in
      let outs = source_chosen (λ x. exit_copies f x port) t d within in
      omega (arith, put.counts (pos t), outs, count_kept (pos 0) _ (put.bags (output from)))

  -- what arrives and what leaves of the probes are bags
  pub arrived_bag : (k port : ℕ) → IsBag (bag_at (get_or (arrived_probes f sources) k []) port)
  arrived_bag k port =
      (arrives_superposed f sent (probes_are_bags f sources valid) (come_probes f sources) come_bags k port).bags everybody

  pub left_bag : (port : ℕ) → IsBag (bag_at (left_probes f sources) port)
  left_bag port = (leaves_superposed f sent (probes_are_bags f sources valid) port).bags everybody
