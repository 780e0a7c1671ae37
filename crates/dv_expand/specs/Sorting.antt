-- One item of a source more in a model: it comes behind those of its kind.
use Rattle.std.specs.Prelude.{[], ◌∷◌, ◌++◌}
use Rattle.dv_syntax.specs.Trees.{AtomicTree, CoupledTree}
use Rattle.dv_syntax.specs.Written.{AtomicItem, CoupledItem, sorted_items, sorted_coupled_items}

abbrev pub with_item : AtomicTree → AtomicItem → AtomicTree
with_item m i = record {
  name = m.name;
  declarations = m.declarations ++ (sorted_items m.name (i ∷ [])).declarations;
  phases = m.phases ++ (sorted_items m.name (i ∷ [])).phases;
  starts = m.starts ++ (sorted_items m.name (i ∷ [])).starts;
  holds = m.holds ++ (sorted_items m.name (i ∷ [])).holds;
  rules = m.rules ++ (sorted_items m.name (i ∷ [])).rules;
}

abbrev pub with_coupled_item : CoupledTree → CoupledItem → CoupledTree
with_coupled_item m i = record {
  name = m.name;
  inputs = m.inputs ++ (sorted_coupled_items m.name (i ∷ [])).inputs;
  outputs = m.outputs ++ (sorted_coupled_items m.name (i ∷ [])).outputs;
  parts = m.parts ++ (sorted_coupled_items m.name (i ∷ [])).parts;
  links = m.links ++ (sorted_coupled_items m.name (i ∷ [])).links;
}
