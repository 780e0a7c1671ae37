-- The ways of models, counted from level to level, are those of their trees.
use Rattle.std.proofs.Common.{◌≡◌, ℕ, zero, suc, ◌+◌, List, [], ◌∷◌, length, replicate, refl, ap, sym, ◌∙◌, arith}
use Rattle.std.specs.Prelude.{Option, option_map}
use Rattle.std.specs.List.{cons_option, filter_map, fold, sum_by}
use Rattle.std.proofs.Math.ListN.{set}
use Rattle.std.proofs.lemmas.List.{set-get_or}
use Rattle.std.proofs.lemmas.List.Sums.{sum_by-cons}
use Rattle.dv_syntax.specs.Trees.{ModelTree, AtomicModel, CoupledModel, CoupledTree}
use Rattle.dv_syntax.specs.declared.tree.Part.{Part}
use Rattle.dv_bag.specs.Bag.{capped}
use Rattle.dv_check.specs.Tree.{PartTree, parts_by, parts_to, with_part}
use Rattle.dv_tree.specs.Couplings.{couplings_of_inputs, couplings_of_parts}
use Rattle.dv_tree.specs.Tables.{model_names, resolved_part, resolved_part_at, resolved_parts}
use Rattle.dv_tree.specs.declared.couplings.Target.{Target}
use Rattle.dv_tree.specs.declared.couplings.Target.TheVariants.{Own, OfPart}
use Rattle.dv_tree.specs.declared.couplings.Coupling.{Coupling}
use Rattle.dv_tree.specs.declared.resolved_parts.ResolvedPart.{ResolvedPart}
use Rattle.dv_tree.proofs.Resolved.{IsResolved, nowhere, somewhere, is_resolved, table_at}
use Rattle.dv_flat.specs.Ways.{WayCounts, at_port, crossing_ways, inside_ways, joined_ways, model_ways, more_at, more_out, no_ways}
use Rattle.dv_flat.specs.Ways.{output_ways, part_ways, ways_below, ways_from, ways_over, with_input, with_output}
use Rattle.dv_flat.proofs.Trees.{tree_ways, ways_of_model}

-- ---- Where no models are known, parts count for nothing

none_from : (resolved : List ResolvedPart) (t : Target) → ways_from (part_ways [] resolved) t ≡ 0
none_from resolved (Own port) = refl
none_from [] (OfPart part port) = refl
none_from (e ∷ resolved) (OfPart zero port) = refl
none_from (e ∷ resolved) (OfPart (suc part) port) = none_from resolved (OfPart part port)

none_on : (t : Target) → ways_from [] t ≡ 0
none_on (Own port) = refl
none_on (OfPart part port) = refl

same_inputs : (resolved : List ResolvedPart) (cs : List Coupling) (ways : List ℕ) →
    fold (with_input (part_ways [] resolved)) ways cs ≡ fold (with_input []) ways cs
same_inputs resolved [] ways = refl
same_inputs resolved (c ∷ cs) ways =
    ap (λ n. fold (with_input (part_ways [] resolved)) (more_at c.port n ways) cs) (none_from resolved c.target ∙ sym (none_on c.target))
    ∙ same_inputs resolved cs (with_input [] ways c)

none_at : (n port : ℕ) → at_port (replicate n 0) port ≡ 0
none_at zero port = refl
none_at (suc n) zero = refl
none_at (suc n) (suc port) = none_at n port

nothing_more : (n : ℕ) (t : Target) → more_out t 0 (replicate n 0) ≡ replicate n 0
nothing_more n (Own port) =
    let none = none_at n port in
    let same : capped (at_port (replicate n 0) port + 0) ≡ at_port (replicate n 0) port = omega (arith, none) in
    ap (set (replicate n 0) port) same ∙ set-get_or (replicate n 0) port 0
nothing_more n (OfPart part port) = refl

no_outputs : (n : ℕ) (cs : List Coupling) → fold (with_output []) (replicate n 0) cs ≡ replicate n 0
no_outputs n [] = refl
no_outputs n (c ∷ cs) = ap (λ ws. fold (with_output []) ws cs) (nothing_more n c.target) ∙ no_outputs n cs

same_outputs : (resolved : List ResolvedPart) (couplings : List (List Coupling)) (n : ℕ) →
    output_ways couplings (part_ways [] resolved) (replicate n 0) ≡ output_ways couplings [] (replicate n 0)
same_outputs resolved [] n = refl
same_outputs [] (cs ∷ couplings) n = refl
same_outputs (e ∷ resolved) (cs ∷ couplings) n =
    ap (output_ways couplings (part_ways [] resolved)) (no_outputs n cs) ∙ (same_outputs resolved couplings n ∙ no_parts couplings)
  where
    no_parts : (css : List (List Coupling)) → output_ways css [] (replicate n 0) ≡ replicate n 0
    no_parts [] = refl
    no_parts (ds ∷ css) = refl

none_joined : (all : List WayCounts) (cs : List Coupling) → sum_by (joined_ways all []) cs ≡ 0
none_joined all [] = refl
none_joined all (c ∷ cs) =
    let first = sum_by-cons (joined_ways all []) c cs in let rest = none_joined all cs in omega (arith, first, rest)

none_crosses : (all : List WayCounts) (couplings : List (List Coupling)) (resolved : List ResolvedPart) →
    crossing_ways all couplings (part_ways [] resolved) ≡ 0
none_crosses all [] resolved = refl
none_crosses all (cs ∷ couplings) [] = refl
none_crosses all (cs ∷ couplings) (e ∷ resolved) =
    let first = none_joined all cs in let rest = none_crosses all couplings resolved in omega (arith, first, rest)

none_inside : (resolved : List ResolvedPart) → sum_by (λ (p : WayCounts). p.inside) (part_ways [] resolved) ≡ 0
none_inside [] = refl
none_inside (e ∷ resolved) =
    let first = sum_by-cons (λ (p : WayCounts). p.inside) no_ways (part_ways [] resolved) in
    let rest = none_inside resolved in omega (arith, first, rest)

abbrev made : List ℕ → List ℕ → ℕ → WayCounts
made inputs outputs inside = record { inputs = inputs; outputs = outputs; inside = inside }

same_ways : (a b c d : List ℕ) (m n : ℕ) → a ≡ b → c ≡ d → m ≡ n → made a c m ≡ made b d n
same_ways a b c d m n inputs outputs inside = ap (λ x. made x c m) inputs ∙ (ap (λ x. made b x m) outputs ∙ ap (made b d) inside)

unknown_parts : (models : List ModelTree) (m : CoupledTree) (resolved : List ResolvedPart) →
    ways_of_model models m (part_ways [] resolved) ≡ ways_of_model models m []
unknown_parts models m resolved =
    let own = couplings_of_inputs models m in
    let couplings = couplings_of_parts models m in
    let n = length m.outputs in
    let crossing = none_crosses (part_ways [] resolved) couplings resolved in
    let without = none_crosses [] couplings [] in
    let inside : capped (inside_ways couplings (part_ways [] resolved)) ≡ capped (inside_ways couplings []) =
    omega (arith, none_inside resolved, crossing, without) in
    same_ways _ _ _ _ _ _ (same_inputs resolved own (replicate (length m.inputs) 0)) (same_outputs resolved couplings n) inside

-- ---- One level up

module _ (models : List ModelTree) (below : List WayCounts) (inside : CoupledTree → PartTree)
    (known : (m : CoupledTree) →
    ways_of_model models m (part_ways below (resolved_parts models m)) ≡ ways_of_model models m (tree_ways models (inside m))) where
  part_known : (p : Part) {o : Option ModelTree} {index : Option ℕ} (rest : PartTree) (resolved : List ResolvedPart) →
      IsResolved models o index → part_ways (ways_over below models) resolved ≡ tree_ways models rest →
      part_ways (ways_over below models) (cons_option (option_map (resolved_part_at p.name) index) resolved)
      ≡ tree_ways models (with_part inside p.name o rest)
  part_known p rest resolved nowhere h = h
  part_known p rest resolved (somewhere (AtomicModel m) index there) h =
      ap (λ w. w ∷ part_ways (ways_over below models) resolved)
      (table_at (model_ways below models) models index (AtomicModel m) no_ways there)
      ∙ ap (λ ws. model_ways below models (AtomicModel m) ∷ ws) h
  part_known p rest resolved (somewhere (CoupledModel m) index there) h =
      ap (λ w. w ∷ part_ways (ways_over below models) resolved)
      (table_at (model_ways below models) models index (CoupledModel m) no_ways there ∙ known m)
      ∙ ap (λ ws. ways_of_model models m (tree_ways models (inside m)) ∷ ws) h

  parts_known : (parts : List Part) →
      part_ways (ways_over below models) (filter_map (resolved_part (model_names models)) parts)
      ≡ tree_ways models (parts_by inside models parts)
  parts_known [] = refl
  parts_known (p ∷ parts) =
      part_known p (parts_by inside models parts) (filter_map (resolved_part (model_names models)) parts)
      (is_resolved p.model.number models) (parts_known parts)

-- the ways of a coupled model are those of its tree
pub levels_counted : (depth : ℕ) (models : List ModelTree) (m : CoupledTree) →
    ways_of_model models m (part_ways (ways_below depth models) (resolved_parts models m))
    ≡ ways_of_model models m (tree_ways models (parts_to depth models m))
levels_counted zero models m = unknown_parts models m (resolved_parts models m)
levels_counted (suc depth) models m =
    ap (ways_of_model models m) (parts_known models (ways_below depth models) (parts_to depth models) (levels_counted depth models) m.parts)
