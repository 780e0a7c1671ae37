-- What a tree keeps of a checked text, as tables of numbers.
use Rattle.std.specs.Prelude.{ℕ, List, [], ◌∷◌, ◌++◌, map, length, filter_map, slice_index_or, slice_set, Option, Some, None}
use Rattle.std.specs.Prelude.{option_map, refl}
use Rattle.std.specs.List.{range_with_len}
use Rattle.std.specs.Coded.{Coded, code_by, coded×, coded_list, coded_ℕ}
use Rattle.dv_syntax.specs.contracts.tree.File as file
use Rattle.dv_syntax.specs.contracts.tree.Model as model
use Rattle.dv_syntax.specs.declared.tree.File.{File}
use Rattle.dv_syntax.specs.declared.tree.Model.{Model}
use Rattle.dv_syntax.specs.declared.tree.Name.{Name}
use Rattle.dv_syntax.specs.declared.tree.Part.{Part}
use Rattle.dv_syntax.specs.Trees.{ModelTree, AtomicModel, CoupledModel, CoupledTree, FileTree}
use Rattle.dv_eval.specs.Scope.{Scope, scope_of, nothing_declared, index_of}
use Rattle.dv_check.specs.Names.{name_of_model, numbers_of}
use Rattle.dv_syntax.specs.declared.tree.Link.{Link}
use Rattle.dv_tree.specs.Instances.{root_of}
use Rattle.dv_tree.specs.Couplings.{Shown, shown_parts, index_at, resolved_between, own_couplings, part_couplings}
use Rattle.dv_tree.specs.Couplings.{couplings_of_inputs, couplings_of_parts}
use Rattle.dv_tree.specs.declared.couplings.ResolvedLink.{ResolvedLink}
use Rattle.dv_tree.specs.declared.couplings.Target.{Target}
use Rattle.dv_tree.specs.declared.couplings.Target.TheVariants.{Own, OfPart}
use Rattle.dv_tree.specs.contracts.couplings.Coupling as coupling
use Rattle.dv_tree.specs.contracts.resolved_parts.ResolvedPart as resolved
use Rattle.dv_tree.specs.declared.couplings.Coupling.{Coupling}
use Rattle.dv_tree.specs.declared.resolved_parts.ResolvedPart.{ResolvedPart}

-- a checked file, the texts of its names, and those of its models that have tables
pub record Source : Type 0 where
  pub file : File
  pub names : List (List ℕ)
  pub reached : List Model

-- a source is encoded as the tuple of its fields
abbrev pub source_code : Coded Source
source_code =
    code_by (File × (List (List ℕ) × List Model))
    (coded× file.the_row.coded (coded× (coded_list (coded_list coded_ℕ)) (coded_list model.the_row.coded)))
    (λ s. (s.file, (s.names, s.reached))) (λ p. record { file = p.0; names = p.1.0; reached = p.1.1 }) (λ _. refl)

-- the names of the models, in the order of the text
abbrev pub model_names : List ModelTree → List ℕ
model_names models = map (λ m. (name_of_model m).number) models

-- the scopes of the models; that of a coupled model has no names
abbrev pub scope_of_model : ModelTree → Scope
scope_of_model (AtomicModel m) = scope_of m
scope_of_model (CoupledModel m) = nothing_declared

abbrev pub scopes_of : FileTree → List Scope
scopes_of f = map scope_of_model f.models

-- a part with the index of its model, if that is known
abbrev pub resolved_part_at : Name → ℕ → ResolvedPart
resolved_part_at name index = record { name = name; model = index }

abbrev pub resolved_part : List ℕ → Part → Option ResolvedPart
resolved_part models p = option_map (resolved_part_at p.name) (index_of p.model.number models)

abbrev pub resolved_parts : List ModelTree → CoupledTree → List ResolvedPart
resolved_parts models m = filter_map (resolved_part (model_names models)) m.parts

-- the table of a coupled model: its parts, the number of its outputs, the numbers of the inputs of its parts, its couplings
pub record LevelTable : Type 0 where
  pub parts : List ResolvedPart
  pub outputs : ℕ
  pub inputs : List ℕ
  pub of_inputs : List Coupling
  pub of_parts : List (List Coupling)

-- a table is encoded as the tuple of its fields
abbrev pub level_code : Coded LevelTable
level_code =
    code_by (List ResolvedPart × (ℕ × (List ℕ × (List Coupling × List (List Coupling)))))
    (coded× (coded_list resolved.the_row.coded)
    (coded× coded_ℕ (coded× (coded_list coded_ℕ)
    (coded× (coded_list coupling.the_row.coded) (coded_list (coded_list coupling.the_row.coded))))))
    (λ t. (t.parts, (t.outputs, (t.inputs, (t.of_inputs, t.of_parts)))))
    (λ p. record { parts = p.0; outputs = p.1.0; inputs = p.1.1.0; of_inputs = p.1.1.1.0; of_parts = p.1.1.1.1 }) (λ _. refl)

abbrev pub level_of : List ModelTree → CoupledTree → LevelTable
level_of models m = record {
  parts = resolved_parts models m;
  outputs = length m.outputs;
  inputs = map (λ (s : Shown). length s.inputs) (shown_parts models m);
  of_inputs = couplings_of_inputs models m;
  of_parts = couplings_of_parts models m;
}

-- the tables of the coupled models, by the index of the model
abbrev pub level_of_model : List ModelTree → ModelTree → Option LevelTable
level_of_model models (AtomicModel m) = None
level_of_model models (CoupledModel m) = Some (level_of models m)

abbrev pub levels_of : List ModelTree → List (Option LevelTable)
levels_of models = map (level_of_model models) models

-- the table of the root
abbrev pub root_table : FileTree → Option LevelTable
root_table f = option_map (level_of f.models) (root_of f)

-- a table from the names of the models and of their ports
abbrev pub part_names : List ResolvedPart → List ℕ
part_names resolved = map (λ (p : ResolvedPart). p.name.number) resolved

abbrev pub ports_at : List (List ℕ) → List ResolvedPart → List (List ℕ)
ports_at ports resolved = map (λ (p : ResolvedPart). slice_index_or ports p.model []) resolved

abbrev pub resolved_by : List ℕ → List ℕ → List ℕ → List (List ℕ) → List (List ℕ) → Link → Option ResolvedLink
resolved_by inputs outputs names part_inputs part_outputs l =
    resolved_between (index_at inputs names part_outputs l.from.part l.from.port.number)
    (index_at outputs names part_inputs l.to.part l.to.port.number)

abbrev pub links_by : List (List ℕ) → List (List ℕ) → List ResolvedPart → CoupledTree → List ResolvedLink
links_by inputs outputs resolved m =
    filter_map (resolved_by (numbers_of m.inputs) (numbers_of m.outputs) (part_names resolved) (ports_at inputs resolved)
    (ports_at outputs resolved)) m.links

abbrev pub level_with : List (List ℕ) → List (List ℕ) → List ResolvedPart → CoupledTree → LevelTable
level_with inputs outputs resolved m = record {
  parts = resolved;
  outputs = length m.outputs;
  inputs = map length (ports_at inputs resolved);
  of_inputs = own_couplings (links_by inputs outputs resolved m);
  of_parts = map (part_couplings (links_by inputs outputs resolved m)) (range_with_len 0 (length resolved));
}

abbrev pub level_by : List ℕ → List (List ℕ) → List (List ℕ) → CoupledTree → LevelTable
level_by models inputs outputs m = level_with inputs outputs (filter_map (resolved_part models) m.parts) m

abbrev pub level_by_model : List ℕ → List (List ℕ) → List (List ℕ) → ModelTree → Option LevelTable
level_by_model models inputs outputs (AtomicModel m) = None
level_by_model models inputs outputs (CoupledModel m) = Some (level_by models inputs outputs m)

-- with the coupling of a link, at its part
abbrev pub with_coupling_at : Target → Target → List (List Coupling) → List (List Coupling)
with_coupling_at (Own port) to lists = lists
with_coupling_at (OfPart part port) to lists =
    slice_set lists part (slice_index_or lists part [] ++ record { port = port; target = to } ∷ [])

abbrev pub with_link : List (List Coupling) → ResolvedLink → List (List Coupling)
with_link lists l = with_coupling_at l.from l.to lists
