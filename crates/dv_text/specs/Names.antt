-- The names by which the components and the outputs of a text are written in its trace.
use Rattle.std.specs.Prelude.{ℕ, List, map}
use Rattle.dv_syntax.specs.Trees.{FileTree, file_of}
use Rattle.dv_eval.specs.Scope.{scope_of, names_of}
use Rattle.dv_tree.specs.Instances.{Instance, instances, root_outputs}
use Rattle.dv_tree.specs.Tables.{Source}
use Rattle.dv_tree.specs.Paths.{texts_of, with_dots}
use Rattle.dv_text.specs.Texts.{ComponentNames}

abbrev pub instance_names : List (List ℕ) → Instance → ComponentNames
instance_names names i = record {
  path = with_dots (texts_of names i.path);
  phases = texts_of names (scope_of i.model).phases;
  variables = texts_of names (names_of (scope_of i.model).variables);
  outputs = texts_of names (scope_of i.model).outputs;
}

-- the names of a file's components, in order
abbrev pub component_names : List (List ℕ) → FileTree → List ComponentNames
component_names names f = map (instance_names names) (instances f)

-- the names of the root's output ports, in order
abbrev pub root_ports : List (List ℕ) → FileTree → List (List ℕ)
root_ports names f = texts_of names (root_outputs f)

-- the same for a tree of the code
abbrev pub tree_names : Source → List ComponentNames
tree_names s = component_names s.names (file_of s.file)

abbrev pub tree_ports : Source → List (List ℕ)
tree_ports s = root_ports s.names (file_of s.file)
