-- The tables of coupled models, made from the names of the models and of their ports, are those of their text.
use Rattle.std.proofs.Common.{◌≡◌, ℕ, suc, Bool, true, false, cond, eqb, List, [], ◌∷◌, length, map, get_or, refl, ap, sym, ◌∙◌}
use Rattle.std.proofs.Common.{subst, arith}
use Rattle.std.specs.Prelude.{Option, Some, None, option_map, slice_get}
use Rattle.std.specs.List.{filter_map, cons_option, range_with_len}
use Rattle.std.proofs.lemmas.List.{length-map}
use Rattle.std.proofs.lemmas.Option.{slice_get-map, get_or_from_slice_get}
use Rattle.dv_syntax.specs.Trees.{ModelTree, AtomicModel, CoupledModel, CoupledTree, FileTree}
use Rattle.dv_syntax.specs.declared.tree.Part.{Part}
use Rattle.dv_syntax.specs.declared.tree.Link.{Link}
use Rattle.dv_eval.specs.Scope.{index_of}
use Rattle.dv_check.specs.Names.{model_named, name_of_model, numbers_of}
use Rattle.dv_check.specs.Ports.{shown_inputs, shown_outputs}
use Rattle.dv_tree.specs.Instances.{coupled_model}
use Rattle.dv_tree.specs.Couplings.{Shown, shown_by, shown_of, shown_parts, part_couplings, own_couplings}
use Rattle.dv_tree.specs.Couplings.{resolved_links}
use Rattle.dv_tree.specs.Tables.{links_by, model_names, part_names, resolved_by, resolved_part, resolved_part_at, resolved_parts, ports_at}
use Rattle.dv_tree.specs.Tables.{level_of, level_of_model, level_by, level_by_model, levels_of, root_table}
use Rattle.dv_tree.specs.Nodes.{level_at, root_level}
use Rattle.dv_tree.specs.declared.resolved_parts.ResolvedPart.{ResolvedPart}
use Rattle.dv_tree.proofs.IndexLemmas.{index_of-cons}

-- the model that a name stands for, and its index
pub data IsResolved (models : List ModelTree) : Option ModelTree → Option ℕ → Type 0 where
  nowhere : IsResolved models None None
  somewhere : (m : ModelTree) (index : ℕ) → slice_get models index ≡ Some m → IsResolved models (Some m) (Some index)

resolved_later : {models : List ModelTree} {o : Option ModelTree} {p : Option ℕ} (x : ModelTree) → IsResolved models o p →
    IsResolved (x ∷ models) o (option_map suc p)
resolved_later x nowhere = nowhere
resolved_later x (somewhere m index there) = somewhere m (suc index) there

resolved_at : (b : Bool) (x : ModelTree) (models : List ModelTree) (o : Option ModelTree) (p : Option ℕ) → IsResolved models o p →
    IsResolved (x ∷ models) (cond b (Some x) o) (cond b (Some 0) (option_map suc p))
resolved_at true x models o p h = somewhere x 0 refl
resolved_at false x models o p h = resolved_later x h

pub is_resolved : (number : ℕ) (models : List ModelTree) →
    IsResolved models (model_named number models) (index_of number (model_names models))
is_resolved number [] = nowhere
is_resolved number (x ∷ models) =
    let At : Option ℕ → Type 0 = λ p. IsResolved (x ∷ models) (model_named number (x ∷ models)) p in
    subst At (sym (index_of-cons number (name_of_model x).number (model_names models)))
    (resolved_at (eqb (name_of_model x).number number) x models (model_named number models) (index_of number (model_names models))
    (is_resolved number models))

-- what a table of the models has at an index
pub table_at : {Y : Type 0} (f : ModelTree → Y) (models : List ModelTree) (index : ℕ) (m : ModelTree) (d : Y) →
    slice_get models index ≡ Some m → get_or (map f models) index d ≡ f m
table_at f models index m d there =
    get_or_from_slice_get (map f models) index (f m) d (slice_get-map f models index ∙ ap (option_map f) there)

-- what parts show, by their placed
pub record ShownAs (models : List ModelTree) (shown : List Shown) (resolved : List ResolvedPart) : Type 0 where
  pub names : map (λ (s : Shown). s.name) shown ≡ part_names resolved
  pub inputs : map (λ (s : Shown). s.inputs) shown ≡ ports_at (map shown_inputs models) resolved
  pub outputs : map (λ (s : Shown). s.outputs) shown ≡ ports_at (map shown_outputs models) resolved

shown_first : (models : List ModelTree) (p : Part) (shown : List Shown) (resolved : List ResolvedPart) {o : Option ModelTree}
    {index : Option ℕ} →
    IsResolved models o index → ShownAs models shown resolved →
    ShownAs models (cons_option (option_map (shown_by p) o) shown) (cons_option (option_map (resolved_part_at p.name) index) resolved)
shown_first models p shown resolved nowhere rest = rest
shown_first models p shown resolved (somewhere m index there) rest = record {
  names = ap (λ xs. p.name.number ∷ xs) rest.names;
  inputs =
      ap (λ x. x ∷ map (λ (s : Shown). s.inputs) shown) (sym (table_at shown_inputs models index m [] there))
      ∙ ap (λ xs. get_or (map shown_inputs models) index [] ∷ xs) rest.inputs;
  outputs =
      ap (λ x. x ∷ map (λ (s : Shown). s.outputs) shown) (sym (table_at shown_outputs models index m [] there))
      ∙ ap (λ xs. get_or (map shown_outputs models) index [] ∷ xs) rest.outputs;
}

pub shown_as : (models : List ModelTree) (parts : List Part) →
    ShownAs models (filter_map (shown_of models) parts) (filter_map (resolved_part (model_names models)) parts)
shown_as models [] = record { names = refl; inputs = refl; outputs = refl }
shown_as models (p ∷ parts) =
    shown_first models p (filter_map (shown_of models) parts) (filter_map (resolved_part (model_names models)) parts)
    (is_resolved p.model.number models) (shown_as models parts)

-- links by the parts that are shown
links_made : (models : List ModelTree) (m : CoupledTree) →
    links_by (map shown_inputs models) (map shown_outputs models) (resolved_parts models m) m ≡ resolved_links models m
links_made models m =
    let h = shown_as models m.parts in
    let inputs = numbers_of m.inputs in
    let outputs = numbers_of m.outputs in
    ap (λ xs. filter_map (resolved_by inputs outputs xs (ports_at (map shown_inputs models) (resolved_parts models m))
    (ports_at (map shown_outputs models) (resolved_parts models m))) m.links) (sym h.names)
    ∙ (ap (λ xs. filter_map (resolved_by inputs outputs (map (λ (s : Shown). s.name) (shown_parts models m)) xs
    (ports_at (map shown_outputs models) (resolved_parts models m))) m.links) (sym h.inputs)
    ∙ ap (λ xs. filter_map (resolved_by inputs outputs (map (λ (s : Shown). s.name) (shown_parts models m))
    (map (λ (s : Shown). s.inputs) (shown_parts models m)) xs) m.links) (sym h.outputs))

lengths : (shown : List Shown) → map length (map (λ (s : Shown). s.inputs) shown) ≡ map (λ (s : Shown). length s.inputs) shown
lengths [] = refl
lengths (s ∷ shown) = ap (λ xs. length s.inputs ∷ xs) (lengths shown)

-- as many parts are shown as there are placed
shown_count : (models : List ModelTree) (m : CoupledTree) → length (resolved_parts models m) ≡ length (shown_parts models m)
shown_count models m =
    omega (
      arith,
      ap length (shown_as models m.parts).names,
      length-map (shown_parts models m) (λ (s : Shown). s.name),
      length-map (resolved_parts models m) (λ (e : ResolvedPart). e.name.number),
    )

level_made : (models : List ModelTree) (m : CoupledTree) →
    level_by (model_names models) (map shown_inputs models) (map shown_outputs models) m ≡ level_of models m
level_made models m =
    let resolved = resolved_parts models m in
    let counts = ap (map length) (sym (shown_as models m.parts).inputs) ∙ lengths (shown_parts models m) in
    ap (λ links. record {
      parts = resolved;
      outputs = length m.outputs;
      inputs = map length (ports_at (map shown_inputs models) resolved);
      of_inputs = own_couplings links;
      of_parts = map (part_couplings links) (range_with_len 0 (length resolved));
    }) (links_made models m)
    ∙ (ap (λ xs. record {
      parts = resolved;
      outputs = length m.outputs;
      inputs = xs;
      of_inputs = own_couplings (resolved_links models m);
      of_parts = map (part_couplings (resolved_links models m)) (range_with_len 0 (length resolved));
    }) counts
    ∙ ap (λ n. record {
      parts = resolved;
      outputs = length m.outputs;
      inputs = map (λ (s : Shown). length s.inputs) (shown_parts models m);
      of_inputs = own_couplings (resolved_links models m);
      of_parts = map (part_couplings (resolved_links models m)) (range_with_len 0 n);
    }) (shown_count models m))

level_made_of : (models : List ModelTree) (m : ModelTree) →
    level_by_model (model_names models) (map shown_inputs models) (map shown_outputs models) m ≡ level_of_model models m
level_made_of models (AtomicModel m) = refl
level_made_of models (CoupledModel m) = ap Some (level_made models m)

made_of_each : (models each : List ModelTree) →
    map (level_by_model (model_names models) (map shown_inputs models) (map shown_outputs models)) each
    ≡ map (level_of_model models) each
made_of_each models [] = refl
made_of_each models (m ∷ each) =
    ap (λ x. x ∷ map (level_by_model (model_names models) (map shown_inputs models) (map shown_outputs models)) each)
    (level_made_of models m)
    ∙ ap (λ xs. level_of_model models m ∷ xs) (made_of_each models each)

pub levels_made : (models : List ModelTree) (names : List ℕ) (inputs outputs : List (List ℕ)) → names ≡ model_names models →
    inputs ≡ map shown_inputs models → outputs ≡ map shown_outputs models
    → map (level_by_model names inputs outputs) models ≡ levels_of models
levels_made models names inputs outputs names_are inputs_are outputs_are =
    ap (λ x. map (level_by_model x inputs outputs) models) names_are
    ∙ (ap (λ x. map (level_by_model (model_names models) x outputs) models) inputs_are
    ∙ (ap (λ x. map (level_by_model (model_names models) (map shown_inputs models) x) models) outputs_are ∙ made_of_each models models))

-- the table of a model at its index
pub level_resolved : (models : List ModelTree) (index : ℕ) (m : ModelTree) → slice_get models index ≡ Some m →
    level_at (levels_of models) index ≡ level_of_model models m
level_resolved models index m there = table_at (level_of_model models) models index m None there

root_at : (models : List ModelTree) {o : Option ModelTree} {p : Option ℕ} → IsResolved models o p →
    root_level (levels_of models) p ≡ option_map (level_of models) (coupled_model o)
root_at models nowhere = refl
root_at models (somewhere (AtomicModel m) index there) = level_resolved models index (AtomicModel m) there
root_at models (somewhere (CoupledModel m) index there) = level_resolved models index (CoupledModel m) there

-- the table of the root
pub root_made : (f : FileTree) → root_level (levels_of f.models) (index_of f.root.number (model_names f.models)) ≡ root_table f
root_made f = root_at f.models (is_resolved f.root.number f.models)

-- the links of a coupled model, from tables that are equal to these
pub links_from : (inputs outputs : List (List ℕ)) (resolved : List ResolvedPart) (m : CoupledTree) (own_inputs own_outputs names : List ℕ)
    (links : List Link) →
    own_inputs ≡ numbers_of m.inputs → own_outputs ≡ numbers_of m.outputs → names ≡ part_names resolved → links ≡ m.links →
    filter_map (resolved_by own_inputs own_outputs names (ports_at inputs resolved)
    (ports_at outputs resolved)) links ≡ links_by inputs outputs resolved m
links_from inputs outputs resolved m own_inputs own_outputs names links a b c d =
    ap (λ x. filter_map (resolved_by x own_outputs names (ports_at inputs resolved) (ports_at outputs resolved)) links) a
    ∙ (ap (λ x. filter_map (resolved_by (numbers_of m.inputs) x names (ports_at inputs resolved) (ports_at outputs resolved)) links) b
    ∙ (ap (λ x. filter_map (resolved_by (numbers_of m.inputs) (numbers_of m.outputs) x (ports_at inputs resolved)
    (ports_at outputs resolved)) links) c
    ∙ ap (filter_map (resolved_by (numbers_of m.inputs) (numbers_of m.outputs) (part_names resolved) (ports_at inputs resolved)
    (ports_at outputs resolved))) d))
