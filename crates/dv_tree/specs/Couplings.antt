-- The links of a coupled model as indices of ports.
use Rattle.std.specs.Prelude.{ℕ, ◌==◌, if◌then◌else◌, slice_index_or, List, [], map, length, filter_map, Option, Some, None, option_map}
use Rattle.std.specs.List.{range_with_len}
use Rattle.dv_syntax.specs.Trees.{ModelTree, CoupledTree}
use Rattle.dv_syntax.specs.declared.tree.Name.{Name}
use Rattle.dv_syntax.specs.declared.tree.Part.{Part}
use Rattle.dv_syntax.specs.declared.tree.Link.{Link}
use Rattle.dv_syntax.specs.declared.tree.End.{End}
use Rattle.dv_eval.specs.Scope.{index_of}
use Rattle.dv_check.specs.Names.{model_named, numbers_of}
use Rattle.dv_check.specs.Ports.{shown_inputs, shown_outputs}
use Rattle.dv_tree.specs.declared.couplings.Target.{Target}
use Rattle.dv_tree.specs.declared.couplings.Target.TheVariants.{Own, OfPart}
use Rattle.dv_tree.specs.declared.couplings.Coupling.{Coupling}
use Rattle.dv_tree.specs.declared.couplings.ResolvedLink.{ResolvedLink}

-- what the links around a part can name: its name, and the names of its ports
pub record Shown : Type 0 where
  pub name : ℕ
  pub inputs : List ℕ
  pub outputs : List ℕ

abbrev pub shown_by : Part → ModelTree → Shown
shown_by p m = record { name = p.name.number; inputs = shown_inputs m; outputs = shown_outputs m }

-- that of each part of a coupled model; a part whose model is unknown is left out
abbrev pub shown_of : List ModelTree → Part → Option Shown
shown_of models p = option_map (shown_by p) (model_named p.model.number models)

abbrev pub shown_parts : List ModelTree → CoupledTree → List Shown
shown_parts models m = filter_map (shown_of models) m.parts

-- the index of a port of a part, from the names of the ports of each
abbrev pub index_in : List (List ℕ) → ℕ → Option ℕ → Option Target
index_in ports port None = None
index_in ports port (Some part) = option_map (OfPart part) (index_of port (slice_index_or ports part []))

-- the index of a port of the model itself or of a part, from the names of all; the first of equal names counts
abbrev pub index_at : List ℕ → List ℕ → List (List ℕ) → Option Name → ℕ → Option Target
index_at own parts ports None port = option_map Own (index_of port own)
index_at own parts ports (Some part) port = index_in ports port (index_of part.number parts)

-- where a link begins, at an input of the model itself or an output of a part, and where it ends
abbrev pub source_of : CoupledTree → List Shown → End → Option Target
source_of m parts e =
    index_at (numbers_of m.inputs) (map (λ (s : Shown). s.name) parts) (map (λ (s : Shown). s.outputs) parts) e.part e.port.number

abbrev pub target_of : CoupledTree → List Shown → End → Option Target
target_of m parts e =
    index_at (numbers_of m.outputs) (map (λ (s : Shown). s.name) parts) (map (λ (s : Shown). s.inputs) parts) e.part e.port.number

-- a link, if both of its ends have an index
abbrev pub resolved_between : Option Target → Option Target → Option ResolvedLink
resolved_between (Some from) (Some to) = Some (record { from = from; to = to })
resolved_between from to = None

abbrev pub resolved_link : CoupledTree → List Shown → Link → Option ResolvedLink
resolved_link m parts l = resolved_between (source_of m parts l.from) (target_of m parts l.to)

abbrev pub resolved_links : List ModelTree → CoupledTree → List ResolvedLink
resolved_links models m = filter_map (resolved_link m (shown_parts models m)) m.links

-- a link from an input of the model itself
abbrev pub coupling_from_own : Target → Target → Option Coupling
coupling_from_own (Own port) to = Some (record { port = port; target = to })
coupling_from_own (OfPart part port) to = None

-- a link from an output of this part
abbrev pub coupling_from_part : ℕ → Target → Target → Option Coupling
coupling_from_part k (Own port) to = None
coupling_from_part k (OfPart part port) to = if part == k then Some (record { port = port; target = to }) else None

abbrev pub own_couplings : List ResolvedLink → List Coupling
own_couplings links = filter_map (λ (l : ResolvedLink). coupling_from_own l.from l.to) links

abbrev pub part_couplings : List ResolvedLink → ℕ → List Coupling
part_couplings links k = filter_map (λ (l : ResolvedLink). coupling_from_part k l.from l.to) links

-- the couplings from the model's own inputs, and for each part those from its outputs, each in the order of the text
abbrev pub couplings_of_inputs : List ModelTree → CoupledTree → List Coupling
couplings_of_inputs models m = own_couplings (resolved_links models m)

abbrev pub couplings_of_parts : List ModelTree → CoupledTree → List (List Coupling)
couplings_of_parts models m = map (part_couplings (resolved_links models m)) (range_with_len 0 (length (shown_parts models m)))
