-- The links of a text, each counted as often as it has copies, are as many as the ways of its root.
use Rattle.std.proofs.Common.{◌≡◌, ℕ, zero, suc, ◌+◌, ◌≤◌, List, [], ◌∷◌, length, map, get_or, replicate, drop}
use Rattle.std.proofs.Common.{refl, ap, sym, ◌∙◌, arith}
use Rattle.std.specs.Prelude.{Option, Some, None, option_map}
use Rattle.std.specs.List.{range_with_len, sum, sum_by}
use Rattle.std.proofs.lemmas.List.{length-map, length-replicate}
use Rattle.std.proofs.lemmas.List.Sums.{sum_by-append}
use Rattle.dv_syntax.specs.Trees.{ModelTree, CoupledTree, FileTree}
use Rattle.dv_syntax.specs.declared.tree.Name.{Name}
use Rattle.dv_bag.specs.Bag.{Counts, bag_at, capped}
use Rattle.dv_check.specs.Tree.{PartTree, tree_of}
use Rattle.dv_eval.specs.Scope.{scope_of}
use Rattle.dv_check.specs.Limits.{greatest_depth}
use Rattle.dv_check.specs.Names.{numbers_of}
use Rattle.dv_tree.specs.Couplings.{couplings_of_inputs, couplings_of_parts}
use Rattle.dv_tree.specs.Instances.{Instance, inputs_in, instances, instances_in, outputs_in, root_inputs, root_of, tree_in}
use Rattle.dv_tree.specs.Routing.{arrives, arrives_in_root, arriving, first_bags, from_parts, leaves_root, leaving, to_parts}
use Rattle.dv_tree.specs.Tables.{LevelTable, level_of, root_table}
use Rattle.dv_tree.specs.Reached.{AreReached, text_of_reached}
use Rattle.dv_tree.specs.declared.couplings.Coupling.{Coupling}
use Rattle.dv_tree.proofs.ReachedModels.{HasModels, no_parts, atomic, coupled, own_same, parts_same, root_has, root_same, tree_has}
use Rattle.dv_tree.proofs.ReachedModels.{HaveModels, tree_same}
use Rattle.dv_flat.specs.Ends.{input_count, port_at, ports_from}
use Rattle.dv_flat.specs.Limit.{link_count}
use Rattle.dv_flat.specs.Ways.{WayCounts, all_ways, at_port, component_ways, coupled_ways, input_ways, inside_ways, no_ways, output_ways}
use Rattle.dv_flat.specs.Ways.{part_ways, ways_below}
use Rattle.dv_flat.proofs.Alike.{Alike}
use Rattle.dv_flat.proofs.Copies.{copies}
use Rattle.dv_flat.proofs.Levels.{levels_counted}
use Rattle.dv_flat.proofs.LinkCounts.{arrivals_unite, direct_sum, entry_sum, exit_sum, arrival_at}
use Rattle.dv_flat.proofs.Products.{product, product_flip, product_ones, summed_up_to}
use Rattle.dv_flat.proofs.Sources.{all_left, all_ones_are_bags, ones_are_bags, unite_right}
use Rattle.dv_flat.proofs.Sums.{sum_by-map, sums_same}
use Rattle.dv_flat.proofs.Through.{count_at, counts_of, inputs_of, length-input_ways, length-output_ways}
use Rattle.dv_flat.proofs.Trees.{arrivals, counts_replicated, covers_into, covers_to, fits_to, leaving_counts, level_arrives, one_at_each}
use Rattle.dv_flat.proofs.Trees.{one_value, own_counts, sent_by, tree_arrives, tree_ways, ways_of_model}

-- ---- Ports by number, and components one behind the other

bags_of : (k : ℕ) (received : List (List Counts)) → get_or received k [] ≡ first_bags (drop k received)
bags_of zero [] = refl
bags_of zero (bags ∷ received) = refl
bags_of (suc k) [] = refl
bags_of (suc k) (bags ∷ received) = bags_of k received

next_behind : (k : ℕ) (received : List (List Counts)) → drop (suc k) received ≡ drop 1 (drop k received)
next_behind zero received = refl
next_behind (suc k) [] = refl
next_behind (suc k) (bags ∷ received) = next_behind k received

ports_arrivals : (received : List (List Counts)) (is : List Instance) (k : ℕ) →
    sum_by (arrival_at received) (ports_from k input_count is) ≡ arrivals is (drop k received)
ports_arrivals received [] k = refl
ports_arrivals received (i ∷ is) k =
    let ports = range_with_len 0 (input_count i.model) in
    let bags = first_bags (drop k received) in
    let apart = sum_by-append (arrival_at received) (map (port_at k) ports) (ports_from (suc k) input_count is) in
    let moved = sum_by-map (arrival_at received) (port_at k) ports in
    let here =
    sums_same (λ p. arrival_at received (port_at k p)) (at_port (counts_of bags))
    (λ p. ap (λ b. copies (bag_at b p)) (bags_of k received) ∙ sym (count_at bags p)) ports in
    let rest = ports_arrivals received is (suc k) ∙ ap (arrivals is) (next_behind k received) in
    omega (arith, apart, moved, here, rest)

-- ---- The root

-- its ways, by its tree
abbrev root_ways : List ModelTree → Option CoupledTree → WayCounts
root_ways models None = no_ways
root_ways models (Some m) = ways_of_model models m (tree_ways models (tree_of models m))

abbrev all_sent : List ModelTree → Option CoupledTree → List (List Counts)
all_sent models root = sent_by [] (tree_in models root)

root_arrivals : (models : List ModelTree) (root : Option CoupledTree) →
    Alike (arrivals (instances_in [] (tree_in models root))
    (arrives_in_root models root (all_sent models root) (replicate (length (numbers_of (inputs_in root))) one_value)))
    (sum (root_ways models root).inputs + (root_ways models root).inside)
root_arrivals models None = refl
root_arrivals models (Some m) =
    let t = tree_of models m in
    let parts = tree_ways models t in
    let w = ways_of_model models m parts in
    let sent = sent_by [] t in
    let n = length (numbers_of m.inputs) in
    let input = replicate n one_value in
    let leaves = leaving models t sent in
    let into = to_parts models m input leaves in
    let fits = covers_to greatest_depth models m in
    let count = length-map m.inputs (λ (x : Name). x.number) in
    let short : length input ≤ length m.inputs = omega (arith, count, length-replicate n one_value) in
    let all =
    level_arrives models m parts leaves input (arrivals (instances_in [] t) (arriving models t into sent))
    (leaving_counts models t []) fits short
    (tree_arrives models [] into (fits_to greatest_depth models m) (covers_into models m (inputs_of parts) leaves input fits)) in
    let ones = ap (λ xs. product xs w.inputs) (counts_replicated n one_value) in
    let within = length-input_ways (length m.inputs) parts (couplings_of_inputs models m) in
    let summed = product_ones n w.inputs (omega (arith, within, count)) in
    omega (arith, all, ones, summed)

root_left : (models : List ModelTree) (root : Option CoupledTree) →
    sum_by (λ port. copies (bag_at (leaves_root models root (all_sent models root)) port))
    (range_with_len 0 (length (numbers_of (outputs_in root))))
    ≡ sum (root_ways models root).outputs
root_left models None = refl
root_left models (Some m) =
    let t = tree_of models m in
    let parts = tree_ways models t in
    let w = ways_of_model models m parts in
    let leaves = leaving models t (sent_by [] t) in
    let own = (from_parts models m leaves).own in
    let n = length (numbers_of m.outputs) in
    let ports = range_with_len 0 n in
    let count = length-map m.outputs (λ (x : Name). x.number) in
    let within =
    length-output_ways (couplings_of_parts models m) parts (replicate (length m.outputs) 0)
    ∙ length-replicate {A = ℕ} (length m.outputs) 0 in
    sums_same (λ port. copies (bag_at own port)) (at_port (counts_of own)) (λ port. sym (count_at own port)) ports
    ∙ (ap (λ ws. sum_by (at_port ws) ports) (own_counts models m leaves parts (leaving_counts models t []))
    ∙ (summed_up_to w.outputs n
    ∙ (product_flip w.outputs (replicate n 1) ∙ product_ones n w.outputs (omega (arith, within, count)))))

-- ---- All links

links_are_ways : (f : FileTree) → Alike (link_count f) (all_ways (root_ways f.models (root_of f)))
links_are_ways f =
    let sent = one_at_each (instances f) in
    let input = replicate (length (root_inputs f)) one_value in
    let both =
    arrivals_unite f [] input input sent [] sent (unite_right input (ones_are_bags (length (root_inputs f))))
    (all_left sent (all_ones_are_bags (instances f))) in
    let arriving_all = ports_arrivals (arrives f sent input) (instances f) 0 in
    let root = root_arrivals f.models (root_of f) in
    let out = root_left f.models (root_of f) in
    omega (arith, direct_sum f, entry_sum f, exit_sum f, both, arriving_all, root, out)

-- ---- By way of the models that the root leads to

module _ (models reached : List ModelTree) where
  ways_same : (m : CoupledTree) → HaveModels models reached m.parts → (parts : List WayCounts) →
      ways_of_model reached m parts ≡ ways_of_model models m parts
  ways_same m have parts =
      let made : List Coupling → List (List Coupling) → WayCounts =
      λ own couplings. record {
        inputs = input_ways (length m.inputs) parts own;
        outputs = output_ways couplings parts (replicate (length m.outputs) 0);
        inside = capped (inside_ways couplings parts);
      } in
      ap (λ own. made own (couplings_of_parts reached m)) (own_same models reached m have)
      ∙ ap (made (couplings_of_inputs models m)) (parts_same models reached m have)

  tree_ways_same : {t : PartTree} → HasModels models reached t → tree_ways reached t ≡ tree_ways models t
  tree_ways_same no_parts = refl
  tree_ways_same (atomic m rest) = ap (λ ws. component_ways (scope_of m) ∷ ws) (tree_ways_same rest)
  tree_ways_same (coupled {inside = inside} {rest = others} m have within rest) =
      ap (λ ws. ways_of_model reached m ws ∷ tree_ways reached others) (tree_ways_same within)
      ∙ (ap (λ w. w ∷ tree_ways reached others) (ways_same m have (tree_ways models inside))
      ∙ ap (λ ws. ways_of_model models m (tree_ways models inside) ∷ ws) (tree_ways_same rest))

root_ways_same : (f : FileTree) (reached : List ModelTree) (h : AreReached f reached) (o : Option CoupledTree) →
    root_of (text_of_reached f reached) ≡ o → root_ways reached o ≡ root_ways f.models o
root_ways_same f reached h None e = refl
root_ways_same f reached h (Some m) e =
    let have = root_has f reached h m e in
    ap (ways_of_model reached m) (tree_ways_same f.models reached (tree_has f reached h greatest_depth m have))
    ∙ (ap (λ t. ways_of_model reached m (tree_ways f.models t)) (tree_same f reached h greatest_depth m have)
    ∙ ways_same f.models reached m have (tree_ways f.models (tree_of f.models m)))

-- the root's ways by tables
ways_by_table : (models : List ModelTree) (root : Option CoupledTree) (l : LevelTable) → Some l ≡ option_map (level_of models) root →
    coupled_ways (length (numbers_of (inputs_in root))) l (part_ways (ways_below greatest_depth models) l.parts) ≡ root_ways models root
ways_by_table models None l e = absurd (cc)
ways_by_table models (Some m) l e =
    let same : l ≡ level_of models m = cc in
    let below = ways_below greatest_depth models in
    ap (λ x. coupled_ways (length (numbers_of m.inputs)) x (part_ways below x.parts)) same
    ∙ (ap (λ n. coupled_ways n (level_of models m) (part_ways below (level_of models m).parts))
    (length-map m.inputs (λ (x : Name). x.number))
    ∙ levels_counted greatest_depth models m)

-- a text has as many links as its root has ways, as far as they are kept
pub counted_by_ways : (f : FileTree) (reached : List ModelTree) (l : LevelTable) (inputs : ℕ) (below : List WayCounts) (total : ℕ) →
    AreReached f reached → Some l ≡ root_table (text_of_reached f reached) →
    inputs ≡ length (root_inputs f) → below ≡ ways_below greatest_depth reached →
    total ≡ capped (all_ways (coupled_ways inputs l (part_ways below l.parts))) → total ≡ capped (link_count f)
counted_by_ways f reached l inputs below total h root_is inputs_are below_is total_is =
    let root = root_of (text_of_reached f reached) in
    let same = root_same f reached h in
    let count = inputs_are ∙ ap (λ o. length (numbers_of (inputs_in o))) (sym same) in
    let ways : coupled_ways inputs l (part_ways below l.parts) ≡ root_ways f.models (root_of f) =
    ap (λ n. coupled_ways n l (part_ways below l.parts)) count
    ∙ (ap (λ ws. coupled_ways (length (numbers_of (inputs_in root))) l (part_ways ws l.parts)) below_is
    ∙ (ways_by_table reached root l root_is
    ∙ (root_ways_same f reached h root refl ∙ ap (root_ways f.models) same))) in
    total_is ∙ (ap (λ w. capped (all_ways w)) ways ∙ sym (links_are_ways f))

-- a text whose root has no table has no links
pub none_counted : (f : FileTree) (reached : List ModelTree) → AreReached f reached → None ≡ root_table (text_of_reached f reached) →
    0 ≡ capped (link_count f)
none_counted f reached h none = at (root_of (text_of_reached f reached)) (root_same f reached h) none
  where
    at : (o : Option CoupledTree) → o ≡ root_of f → None ≡ option_map (level_of reached) o → 0 ≡ capped (link_count f)
    at None is e =
        let no_links : 0 ≡ capped (all_ways (root_ways f.models None)) = refl in
        no_links ∙ (ap (λ o. capped (all_ways (root_ways f.models o))) is ∙ sym (links_are_ways f))
    at (Some m) is e = absurd (cc)
