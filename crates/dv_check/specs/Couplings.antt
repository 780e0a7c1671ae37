-- The refusals of a coupled model: names, parts, the ends of links, links that lead back, and repeated links.
use Rattle.std.specs.Prelude.{ℕ, ◌==◌, Bool, true, false, ◌&&◌, List, [], ◌∷◌, ◌++◌, map, Option, Some, None}
use Rattle.std.specs.List.{flat_map}
use Rattle.dv_lex.specs.declared.error.Refusal.{Refusal}
use Rattle.dv_lex.specs.declared.error.RefusalNumber.TheVariants.{E6, E7, E12, E13, E14}
use Rattle.dv_syntax.specs.Trees.{ModelTree, CoupledTree}
use Rattle.dv_syntax.specs.declared.tree.Name.{Name}
use Rattle.dv_syntax.specs.declared.tree.Part.{Part}
use Rattle.dv_syntax.specs.declared.tree.Link.{Link}
use Rattle.dv_check.specs.declared.declarations.NameSort.{NameSort}
use Rattle.dv_check.specs.declared.declarations.NameSort.TheVariants.{Variable, Flag, Held, Input, Output, LoopVariable}
use Rattle.dv_check.specs.declared.parts.Interior as tables
use Rattle.dv_check.specs.Names.{refusal, refusal_if, repeats, excess, part_named}
use Rattle.dv_check.specs.Tables.{value_for}
use Rattle.dv_check.specs.LinkSets.{no_link, with_link}
use Rattle.dv_check.specs.Rules.{name_of_declaration, sort_in}
use Rattle.dv_check.specs.Models.{Face, faces_by, faces_in}
use Rattle.dv_check.specs.Ports.{ports_of}

-- ---- Names

abbrev pub name_of_part : Part → Name
name_of_part p = p.name

-- the parts of a coupled model by their names; the first of equal names counts
unfoldable pub parts_in : List Part → ℕ → Option Part
parts_in parts q = part_named q parts

-- what a link of a coupled model can name: the model's own ports, its parts, and the models of the text
pub record Interior : Type 0 where
  pub port : ℕ → Option NameSort
  pub part : ℕ → Option Part
  pub face : ℕ → Option Face

abbrev pub interior_of : List ModelTree → CoupledTree → Interior
interior_of models m = record { port = sort_in (ports_of m); part = parts_in m.parts; face = faces_in models }

-- what the tables contain
abbrev pub interior_by : tables.Interior → Interior
interior_by t = record { port = value_for t.ports; part = value_for t.parts; face = faces_by t.faces.now }

-- the model of a part: known
abbrev pub part_model_refusals : Option Face → ℕ → List Refusal
part_model_refusals None offset = refusal E7 offset ∷ []
part_model_refusals (Some face) offset = []

abbrev pub part_refusals : Interior → Part → List Refusal
part_refusals w p = part_model_refusals (w.face p.model.number) p.model.offset

-- ---- The ends of links

-- a port that is an input, and one that is an output; only the ports of a model can be named outside of it
abbrev pub is_input : Option NameSort → Bool
is_input (Some Input) = true
is_input (Some Output) = false
is_input (Some Variable) = false
is_input (Some Flag) = false
is_input (Some (Held d)) = false
is_input (Some LoopVariable) = false
is_input None = false

abbrev pub is_output : Option NameSort → Bool
is_output (Some Input) = false
is_output (Some Output) = true
is_output (Some Variable) = false
is_output (Some Flag) = false
is_output (Some (Held d)) = false
is_output (Some LoopVariable) = false
is_output None = false

-- a name where a port is wanted: of the other direction, or unknown
abbrev pub port_refusals : (wanted other : Bool) → ℕ → List Refusal
port_refusals true other offset = []
port_refusals false true offset = refusal E12 offset ∷ []
port_refusals false false offset = refusal E7 offset ∷ []

abbrev pub input_refusals : Option NameSort → ℕ → List Refusal
input_refusals sort offset = port_refusals (is_input sort) (is_output sort) offset

abbrev pub output_refusals : Option NameSort → ℕ → List Refusal
output_refusals sort offset = port_refusals (is_output sort) (is_input sort) offset

-- a port of a part at the beginning of a link; the ports of a part whose model is unknown are not tested
abbrev pub part_source_refusals : Option Face → Name → List Refusal
part_source_refusals None port = []
part_source_refusals (Some face) port = output_refusals (face port.number) port.offset

-- and one at its end
abbrev pub part_target_refusals : Option Face → Name → List Refusal
part_target_refusals None port = []
part_target_refusals (Some face) port = input_refusals (face port.number) port.offset

-- an end at a part
abbrev pub source_at_part : Interior → Option Part → Name → Name → List Refusal
source_at_part w None name port = refusal E7 name.offset ∷ []
source_at_part w (Some p) name port = part_source_refusals (w.face p.model.number) port

abbrev pub target_at_part : Interior → Option Part → Name → Name → List Refusal
target_at_part w None name port = refusal E7 name.offset ∷ []
target_at_part w (Some p) name port = part_target_refusals (w.face p.model.number) port

-- the left end: an input of the model itself or an output of a part
abbrev pub source_refusals : Interior → Option Name → Name → List Refusal
source_refusals w None port = input_refusals (w.port port.number) port.offset
source_refusals w (Some name) port = source_at_part w (w.part name.number) name port

-- the right end: an output of the model itself or an input of a part
abbrev pub target_refusals : Interior → Option Name → Name → List Refusal
target_refusals w None port = output_refusals (w.port port.number) port.offset
target_refusals w (Some name) port = target_at_part w (w.part name.number) name port

-- a port of a known part, with its model
abbrev pub is_output_shown : Option Face → ℕ → Bool
is_output_shown None port = false
is_output_shown (Some face) port = is_output (face port)

abbrev pub is_input_shown : Option Face → ℕ → Bool
is_input_shown None port = false
is_input_shown (Some face) port = is_input (face port)

abbrev pub is_output_of_part : Interior → Option Part → ℕ → Bool
is_output_of_part w None port = false
is_output_of_part w (Some p) port = is_output_shown (w.face p.model.number) port

abbrev pub is_input_of_part : Interior → Option Part → ℕ → Bool
is_input_of_part w None port = false
is_input_of_part w (Some p) port = is_input_shown (w.face p.model.number) port

abbrev pub is_source : Interior → Option Name → ℕ → Bool
is_source w None port = is_input (w.port port)
is_source w (Some name) port = is_output_of_part w (w.part name.number) port

abbrev pub is_target : Interior → Option Name → ℕ → Bool
is_target w None port = is_output (w.port port)
is_target w (Some name) port = is_input_of_part w (w.part name.number) port

-- a link of which both ends are known and have the right directions
abbrev pub has_ends : Interior → Link → Bool
has_ends w l = is_source w l.from.part l.from.port.number && is_target w l.to.part l.to.port.number

-- ---- Links

-- two ends at one part, or both at the model itself
abbrev pub same_part : Option Name → Option Name → Bool
same_part None None = true
same_part None (Some b) = false
same_part (Some a) None = false
same_part (Some a) (Some b) = a.number == b.number

abbrev pub leads_back : Link → Bool
leads_back l = same_part l.from.part l.to.part

-- both ends, and if they are known, that the link does not lead back
abbrev pub link_refusals : Interior → Link → List Refusal
link_refusals w l =
    source_refusals w l.from.part l.from.port
    ++ (target_refusals w l.to.part l.to.port
    ++ refusal_if (leads_back l && has_ends w l) E13 l.offset)

-- the repeated links behind those that were seen, if both their ends are known
abbrev pub repeated_links_after : Interior → (Link → Bool) → List Link → List Refusal
repeated_links_after w seen [] = []
repeated_links_after w seen (l ∷ links) =
    refusal_if (seen l && has_ends w l) E14 l.offset ++ repeated_links_after w (with_link seen l) links

-- ---- All of them

-- names of one kind that are declared twice, or are too many
abbrev pub kind_refusals : List Name → List Refusal
kind_refusals names = repeats E6 names ++ excess names

-- the refusals of a coupled model, by what its links can name
abbrev pub coupled_refusals_by : Interior → CoupledTree → List Refusal
coupled_refusals_by w m =
    kind_refusals (map name_of_declaration (ports_of m))
    ++ (kind_refusals (map name_of_part m.parts)
    ++ (flat_map (part_refusals w) m.parts
    ++ (flat_map (link_refusals w) m.links
    ++ repeated_links_after w no_link m.links)))

abbrev pub coupled_refusals : List ModelTree → CoupledTree → List Refusal
coupled_refusals models m = coupled_refusals_by (interior_of models m) m
