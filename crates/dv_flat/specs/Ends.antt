-- The ports between which values travel: the output and input ports of the components, in the order of their numbers.
use Rattle.std.specs.Prelude.{ℕ, suc, ◌∷◌, [], ◌++◌, List, length, map}
use Rattle.std.specs.List.{range_with_len}
use Rattle.dv_syntax.specs.Trees.{AtomicTree, FileTree}
use Rattle.dv_eval.specs.Scope.{scope_of}
use Rattle.dv_tree.specs.Instances.{Instance, instances}
use Rattle.dv_flat.specs.declared.link.ComponentPort.{ComponentPort}

abbrev pub port_at : ℕ → ℕ → ComponentPort
port_at component port = record { component = component; port = port }

-- the ports of components from a number on, by the number of ports of each
abbrev pub ports_from : ℕ → (AtomicTree → ℕ) → List Instance → List ComponentPort
ports_from k count [] = []
ports_from k count (i ∷ is) = map (port_at k) (range_with_len 0 (count i.model)) ++ ports_from (suc k) count is

abbrev pub output_count : AtomicTree → ℕ
output_count m = length (scope_of m).outputs

abbrev pub input_count : AtomicTree → ℕ
input_count m = length (scope_of m).inputs

abbrev pub output_ports : FileTree → List ComponentPort
output_ports f = ports_from 0 output_count (instances f)

abbrev pub input_ports : FileTree → List ComponentPort
input_ports f = ports_from 0 input_count (instances f)
