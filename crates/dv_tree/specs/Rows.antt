-- Small texts, whose components each have the input 10 and the output 11, and whose coupled models have the inputs 10 and 12 and
-- the outputs 11 and 13.
use Rattle.std.specs.Prelude.{ℕ, List, [], ◌∷◌, Option, Some, None, option_map, pos}
use Rattle.dv_syntax.specs.Trees.{ModelTree, AtomicModel, CoupledModel, AtomicTree, CoupledTree, FileTree}
use Rattle.dv_syntax.specs.declared.tree.Name.{Name}
use Rattle.dv_syntax.specs.declared.tree.Part.{Part}
use Rattle.dv_syntax.specs.declared.tree.Link.{Link}
use Rattle.dv_syntax.specs.declared.tree.Declaration.TheVariants.{In, Out}
use Rattle.dv_bag.specs.Bag.{Counts}

abbrev pub name_of : ℕ → Name
name_of number = record { number = number; offset = 0 }

-- the atomic model 1
abbrev pub relay : AtomicTree
relay = record {
  name = name_of 1;
  declarations = In (name_of 10) ∷ Out (name_of 11) ∷ [];
  phases = [];
  starts = [];
  holds = [];
  rules = [];
}

abbrev pub part_of : ℕ → ℕ → Part
part_of name model = record { name = name_of name; model = name_of model }

-- from a port of a part, or of the model itself, to another
abbrev pub link_of : Option ℕ → ℕ → Option ℕ → ℕ → Link
link_of from out to into = record {
  offset = 0;
  from = record { part = option_map name_of from; port = name_of out };
  to = record { part = option_map name_of to; port = name_of into };
}

abbrev pub coupled_of : ℕ → List Part → List Link → CoupledTree
coupled_of name parts links = record {
  name = name_of name;
  inputs = name_of 10 ∷ name_of 12 ∷ [];
  outputs = name_of 11 ∷ name_of 13 ∷ [];
  parts = parts;
  links = links;
}

-- a text with the root 0
abbrev pub text_of : List Part → List Link → List ModelTree → FileTree
text_of parts links models = record { models = AtomicModel relay ∷ CoupledModel (coupled_of 0 parts links) ∷ models; root = name_of 0 }

-- copies of the value 7
abbrev pub sevens : ℕ → Counts
sevens copies = (pos 7, copies) ∷ []

-- one component, in a coupled model that sends on at two ports, both linked to one output of the root
abbrev pub two_paths : FileTree
two_paths =
    text_of (part_of 2 3 ∷ []) (link_of (Some 2) 11 None 11 ∷ link_of (Some 2) 13 None 11 ∷ [])
    (CoupledModel (coupled_of 3 (part_of 4 1 ∷ []) (link_of (Some 4) 11 None 11 ∷ link_of (Some 4) 11 None 13 ∷ [])) ∷ [])

-- one component, and one that is two levels below it
abbrev pub two_levels : FileTree
two_levels =
    text_of (part_of 2 1 ∷ part_of 3 4 ∷ []) (link_of (Some 2) 11 (Some 3) 10 ∷ [])
    (CoupledModel (coupled_of 4 (part_of 5 6 ∷ []) (link_of None 10 (Some 5) 10 ∷ []))
    ∷ CoupledModel (coupled_of 6 (part_of 7 1 ∷ []) (link_of None 10 (Some 7) 10 ∷ [])) ∷ [])

-- two components, to which one input of the root leads
abbrev pub two_parts : FileTree
two_parts = text_of (part_of 2 1 ∷ part_of 3 1 ∷ []) (link_of None 10 (Some 2) 10 ∷ link_of None 10 (Some 3) 10 ∷ []) []

-- two components, of which one sends to the other and out
abbrev pub beside : FileTree
beside = text_of (part_of 2 1 ∷ part_of 3 1 ∷ []) (link_of (Some 2) 11 None 11 ∷ link_of (Some 2) 11 (Some 3) 10 ∷ []) []
