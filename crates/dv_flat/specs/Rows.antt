-- A small text: one component sends to another by two ways and out of the root, and an input of the root leads to the other.
use Rattle.std.specs.Prelude.{[], ◌∷◌, Some, None}
use Rattle.dv_syntax.specs.Trees.{CoupledModel, FileTree}
use Rattle.dv_tree.specs.Rows.{coupled_of, link_of, part_of, text_of}

-- the first component is in a coupled model that sends on at two ports, which the root links to one input of the second
abbrev pub two_ways : FileTree
two_ways =
    text_of (part_of 2 3 ∷ part_of 5 1 ∷ [])
    (link_of (Some 2) 11 (Some 5) 10 ∷ link_of (Some 2) 13 (Some 5) 10 ∷ link_of None 10 (Some 5) 10
    ∷ link_of (Some 5) 11 None 11 ∷ [])
    (CoupledModel (coupled_of 3 (part_of 4 1 ∷ []) (link_of (Some 4) 11 None 11 ∷ link_of (Some 4) 11 None 13 ∷ [])) ∷ [])
