-- The network of a text by its programs and its links: behaviours are those of programs, and values are routed along direct, entry and exit
-- links, with copies, without the tree.
use Rattle.std.specs.Prelude.{ℕ, List, length, map}
use Rattle.std.specs.List.{range_with_len}
use Rattle.dv_bag.specs.Bag.{Counts}
use Rattle.dv_syntax.specs.Trees.{AtomicTree, FileTree}
use Rattle.dv_devs.specs.Behaviour.{Component}
use Rattle.dv_devs.specs.Network.{Network}
use Rattle.dv_eval.specs.Scope.{start_state}
use Rattle.dv_tree.specs.Instances.{Instance, instances}
use Rattle.dv_gen.specs.ModelCode.{phase_codes}
use Rattle.dv_flat.specs.Carried.{arrives_by_links, leaves_by_links}
use Rattle.dv_plain.specs.Source.{first_component, hold_end}
use Rattle.law_compiled.specs.Behaviours.{behaviour_by}

-- the component of a model at 0.0, by its programs
abbrev pub start_by : ℕ → AtomicTree → Component
start_by limit m = first_component (start_state m) (hold_end limit (behaviour_by (phase_codes m)) 0 (start_state m))

abbrev pub compiled_network : ℕ → FileTree → Network (List Counts)
compiled_network limit f = record {
  numbers = range_with_len 0 (length (instances f));
  behaviours = map (λ (i : Instance). behaviour_by (phase_codes i.model)) (instances f);
  start = map (λ (i : Instance). start_by limit i.model) (instances f);
  arrives = arrives_by_links f;
  leaves = leaves_by_links f;
}
