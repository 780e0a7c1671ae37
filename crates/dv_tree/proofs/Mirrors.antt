-- The parts of a text and those of its tables: what leaves them and what arrives in them is the same.
use Rattle.std.proofs.Common.{◌≡◌, ℕ, zero, suc, ◌+◌, List, [], ◌∷◌, ◌++◌, length, map, replicate, take, drop, refl, ap, sym, ◌∙◌}
use Rattle.std.proofs.Common.{subst, arith}
use Rattle.std.specs.Prelude.{Option, Some, option_map, slice_get}
use Rattle.std.specs.List.{filter_map, cons_option}
use Rattle.std.proofs.lemmas.List.{append_assoc, length-append, take-take, drop-take, drop_at}
use Rattle.dv_syntax.specs.Trees.{ModelTree, AtomicModel, CoupledModel, AtomicTree, CoupledTree}
use Rattle.dv_syntax.specs.declared.tree.Name.{Name}
use Rattle.dv_syntax.specs.declared.tree.Part.{Part}
use Rattle.dv_bag.specs.Bag.{Counts}
use Rattle.dv_check.specs.Tree.{PartTree, NoParts, AtomicPart, CoupledPart, with_part, parts_by, parts_to, component_count}
use Rattle.dv_tree.specs.Couplings.{Shown, shown_parts, couplings_of_parts}
use Rattle.dv_tree.specs.Routing.{Arrived, along_all, from_parts, to_parts, first_bags, leaving, arriving}
use Rattle.dv_tree.specs.Tables.{LevelTable, level_of, levels_of, model_names, resolved_part, resolved_part_at}
use Rattle.dv_tree.specs.Nodes.{Nodes, NoNodes, AtomicNode, CoupledNode, with_node, nodes_by, nodes_to, atomic_count}
use Rattle.dv_tree.specs.Nodes.{coupled_count, from_level, to_level, leaving_nodes, kept_nodes, arriving_nodes}
use Rattle.dv_tree.specs.declared.resolved_parts.ResolvedPart.{ResolvedPart}
use Rattle.dv_tree.proofs.Resolved.{IsResolved, nowhere, somewhere, is_resolved, level_resolved}

-- parts by tables stand for parts of a text
pub data Mirrors (models : List ModelTree) : PartTree → Nodes → Type 0 where
  none : Mirrors models NoParts NoNodes
  atomic : (name : Name) (m : AtomicTree) (index : ℕ) {rest : PartTree} {others : Nodes} → slice_get models index ≡ Some (AtomicModel m) →
      Mirrors models rest others → Mirrors models (AtomicPart name m rest) (AtomicNode name.number index others)
  coupled : (name : Name) (m : CoupledTree) {inside rest : PartTree} {within others : Nodes} → Mirrors models inside within →
      Mirrors models rest others → Mirrors models (CoupledPart name m inside rest)
      (CoupledNode name.number (level_of models m) within others)

module _ (models : List ModelTree) (inside : CoupledTree → PartTree) (within : LevelTable → Nodes)
    (below : (m : CoupledTree) → Mirrors models (inside m) (within (level_of models m))) where
  mirrors_part : (p : Part) {o : Option ModelTree} {index : Option ℕ} (rest : PartTree) (resolved : List ResolvedPart) →
      IsResolved models o index →
      Mirrors models rest (nodes_by within (levels_of models) resolved) →
      Mirrors models (with_part inside p.name o rest)
      (nodes_by within (levels_of models) (cons_option (option_map (resolved_part_at p.name) index) resolved))
  mirrors_part p rest resolved nowhere h = h
  mirrors_part p rest resolved (somewhere (AtomicModel m) index there) h =
      let At : Option LevelTable → Type 0 =
      λ o. Mirrors models (AtomicPart p.name m rest)
      (with_node within (resolved_part_at p.name index) o (nodes_by within (levels_of models) resolved)) in
      subst At (sym (level_resolved models index (AtomicModel m) there)) (atomic p.name m index there h)
  mirrors_part p rest resolved (somewhere (CoupledModel m) index there) h =
      let At : Option LevelTable → Type 0 =
      λ o. Mirrors models (CoupledPart p.name m (inside m) rest)
      (with_node within (resolved_part_at p.name index) o (nodes_by within (levels_of models) resolved)) in
      subst At (sym (level_resolved models index (CoupledModel m) there)) (coupled p.name m (below m) h)

  mirrors_parts : (parts : List Part) →
      Mirrors models (parts_by inside models parts)
      (nodes_by within (levels_of models) (filter_map (resolved_part (model_names models)) parts))
  mirrors_parts [] = none
  mirrors_parts (p ∷ parts) =
      mirrors_part p (parts_by inside models parts) (filter_map (resolved_part (model_names models)) parts)
      (is_resolved p.model.number models) (mirrors_parts parts)

pub mirrors_to : (depth : ℕ) (models : List ModelTree) (m : CoupledTree) →
    Mirrors models (parts_to depth models m) (nodes_to depth (levels_of models) (level_of models m))
mirrors_to zero models m = none
mirrors_to (suc depth) models m =
    mirrors_parts models (parts_to depth models) (nodes_to depth (levels_of models)) (mirrors_to depth models) m.parts

pub same_count : {models : List ModelTree} {t : PartTree} {n : Nodes} → Mirrors models t n → component_count t ≡ atomic_count n
same_count none = refl
same_count (atomic name m index there rest) = ap suc (same_count rest)
same_count (coupled name m {rest = rest} {within = within} h more) =
    ap (λ k. k + component_count rest) (same_count h) ∙ ap (λ k. atomic_count within + k) (same_count more)

-- what the components of parts send is at the head of what is sent
pub leaving-take : (models : List ModelTree) (t : PartTree) (sent : List (List Counts)) →
    leaving models t (take (component_count t) sent) ≡ leaving models t sent
leaving-take models NoParts sent = refl
leaving-take models (AtomicPart name m rest) [] = refl
leaving-take models (AtomicPart name m rest) (bags ∷ sent) = ap (λ xs. bags ∷ xs) (leaving-take models rest sent)
leaving-take models (CoupledPart name m inside rest) sent =
    let k = component_count inside in
    let n = component_count rest in
    ap (λ s. (from_parts models m (leaving models inside s)).own ∷ leaving models rest (drop k (take (k + n) sent)))
    (take-take k (k + n) sent (omega arith))
    ∙ (ap (λ s. (from_parts models m (leaving models inside (take k sent))).own ∷ leaving models rest s) (drop-take k n sent)
    ∙ ap (λ xs. (from_parts models m (leaving models inside (take k sent))).own ∷ xs) (leaving-take models rest (drop k sent)))

pub arriving-take : (models : List ModelTree) (t : PartTree) (comes sent : List (List Counts)) →
    arriving models t comes (take (component_count t) sent) ≡ arriving models t comes sent
arriving-take models NoParts comes sent = refl
arriving-take models (AtomicPart name m rest) comes [] = refl
arriving-take models (AtomicPart name m rest) comes (bags ∷ sent) =
    ap (λ xs. first_bags comes ∷ xs) (arriving-take models rest (drop 1 comes) sent)
arriving-take models (CoupledPart name m inside rest) comes sent =
    let k = component_count inside in
    let n = component_count rest in
    let Inside : List (List Counts) → List (List Counts) =
    λ s. arriving models inside (to_parts models m (first_bags comes) (leaving models inside s)) s in
    ap (λ s. Inside s ++ arriving models rest (drop 1 comes) (drop k (take (k + n) sent))) (take-take k (k + n) sent (omega arith))
    ∙ (ap (λ s. Inside (take k sent) ++ arriving models rest (drop 1 comes) s) (drop-take k n sent)
    ∙ ap (λ xs. Inside (take k sent) ++ xs) (arriving-take models rest (drop 1 comes) (drop k sent)))

no_bags : (shown : List Shown) →
    map (λ (s : Shown). replicate {A = Counts} (length s.inputs) []) shown
    ≡ map (λ ports. replicate ports []) (map (λ (s : Shown). length s.inputs) shown)
no_bags [] = refl
no_bags (s ∷ shown) = ap (λ xs. replicate (length s.inputs) [] ∷ xs) (no_bags shown)

-- what comes from parts, by the table
pub from_table : (models : List ModelTree) (m : CoupledTree) (bags : List (List Counts)) →
    from_parts models m bags ≡ from_level (level_of models m) bags
from_table models m bags =
    ap (λ parts. along_all (couplings_of_parts models m) bags (record { own = replicate (length m.outputs) []; parts = parts }))
    (no_bags (shown_parts models m))

pub same_leaving : {models : List ModelTree} {t : PartTree} {n : Nodes} → Mirrors models t n → (sent : List (List Counts)) →
    leaving models t sent ≡ leaving_nodes n sent
same_leaving none sent = refl
same_leaving (atomic name m index there rest) sent = ap (λ xs. first_bags sent ∷ xs) (same_leaving rest (drop 1 sent))
same_leaving {models = models} (coupled name m {inside = inside} {rest = rest} {within = within} {others = others} h more) sent =
    ap (λ xs. (from_parts models m xs).own ∷ leaving models rest (drop (component_count inside) sent))
    (leaving-take models inside sent ∙ same_leaving h sent)
    ∙ (ap (λ (a : Arrived). a.own ∷ leaving models rest (drop (component_count inside) sent))
    (from_table models m (leaving_nodes within sent))
    ∙ (ap (λ k. (from_level (level_of models m) (leaving_nodes within sent)).own ∷ leaving models rest (drop k sent)) (same_count h)
    ∙ ap (λ xs. (from_level (level_of models m) (leaving_nodes within sent)).own ∷ xs)
    (same_leaving more (drop (atomic_count within) sent))))

length-kept_nodes : (n : Nodes) (sent : List (List Counts)) → length (kept_nodes n sent) ≡ coupled_count n
length-kept_nodes NoNodes sent = refl
length-kept_nodes (AtomicNode name model rest) sent = length-kept_nodes rest (drop 1 sent)
length-kept_nodes (CoupledNode name l inside rest) sent =
    ap suc (length-append (kept_nodes inside sent) (kept_nodes rest (drop (atomic_count inside) sent))
    ∙ (ap (λ k. k + length (kept_nodes rest (drop (atomic_count inside) sent))) (length-kept_nodes inside sent)
    ∙ ap (λ k. coupled_count inside + k) (length-kept_nodes rest (drop (atomic_count inside) sent)))) ∙ omega arith

-- what comes to the parts of a model, by the table
pub to_table : {models : List ModelTree} {t : PartTree} {n : Nodes} → Mirrors models t n → (m : CoupledTree) (input : List Counts)
    (sent : List (List Counts)) → to_level (level_of models m) input (from_level (level_of models m) (leaving_nodes n sent))
    ≡ to_parts models m input (leaving models t sent)
to_table {models = models} {t = t} {n = n} h m input sent =
    ap (to_level (level_of models m) input) (sym (from_table models m (leaving_nodes n sent)))
    ∙ ap (to_parts models m input) (sym (same_leaving h sent))

pub same_arriving : {models : List ModelTree} {t : PartTree} {n : Nodes} → Mirrors models t n →
    (comes sent : List (List Counts)) (more : List Arrived) →
    arriving_nodes n comes (kept_nodes n sent ++ more) ≡ arriving models t comes sent
same_arriving none comes sent more = refl
same_arriving (atomic name m index there rest) comes sent more =
    ap (λ xs. first_bags comes ∷ xs) (same_arriving rest (drop 1 comes) (drop 1 sent) more)
same_arriving {models = models} (coupled name m {inside = inside} {rest = rest} {within = within} {others = others} h others_h)
    comes sent more =
    let l = level_of models m in
    let k = component_count inside in
    let a = from_level l (leaving_nodes within sent) in
    let kept = kept_nodes within sent in
    let after = kept_nodes others (drop (atomic_count within) sent) ++ more in
    let split = append_assoc kept (kept_nodes others (drop (atomic_count within) sent)) more in
    let first =
    ap (λ ks. arriving_nodes within (to_level l (first_bags comes) a) ks) split
    ∙ (same_arriving h (to_level l (first_bags comes) a) sent after
    ∙ (ap (λ xs. arriving models inside xs sent) (to_table h m (first_bags comes) sent)
    ∙ (ap (λ xs. arriving models inside (to_parts models m (first_bags comes) xs) sent) (sym (leaving-take models inside sent))
    ∙ sym (arriving-take models inside (to_parts models m (first_bags comes) (leaving models inside (take k sent))) sent)))) in
    let behind =
    ap (λ ks. arriving_nodes others (drop 1 comes) (drop (coupled_count within) ks)) split
    ∙ (ap (arriving_nodes others (drop 1 comes)) (drop_at kept after (coupled_count within) (length-kept_nodes within sent))
    ∙ (same_arriving others_h (drop 1 comes) (drop (atomic_count within) sent) more
    ∙ ap (λ j. arriving models rest (drop 1 comes) (drop j sent)) (sym (same_count h)))) in
    ap (λ xs. xs ++ arriving_nodes others (drop 1 comes)
    (drop (coupled_count within) ((kept ++ kept_nodes others (drop (atomic_count within) sent)) ++ more))) first
    ∙ ap (λ xs. arriving models inside (to_parts models m (first_bags comes) (leaving models inside (take k sent)))
    (take k sent) ++ xs) behind
