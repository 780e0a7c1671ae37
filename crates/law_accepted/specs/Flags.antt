-- A model with a flag, alone in a coupled model, by the value that its rule assigns to the flag.
use Rattle.std.specs.Prelude.{[], ◌∷◌, false, None}
use Rattle.dv_syntax.specs.declared.tree.Declaration.TheVariants.{Flag}
use Rattle.dv_syntax.specs.declared.tree.RuleSort.TheVariants as rule
use Rattle.dv_syntax.specs.Trees.{Expression, Done, Assign, AtomicTree, AtomicModel, CoupledTree, CoupledModel, FileTree}
use Rattle.law_accepted.specs.Clock.{named}

-- the names: 0 Lamp, 1 on, 2 z, 3 Top, 4 a
-- flag on = false; phases z; start z; hold z: forever; internal z { on := VALUE; }
abbrev pub lamp : Expression → AtomicTree
lamp value = record {
  name = named 0 7;
  declarations = Flag (record { name = named 1 19; start = false }) ∷ [];
  phases = record { offset = 31; names = named 2 38 ∷ [] } ∷ [];
  starts = record { offset = 41; phase = named 2 47 } ∷ [];
  holds = record { offset = 50; phase = named 2 55; ticks = None } ∷ [];
  rules = record { sort = rule.Internal; phase = named 2 76; body = Assign (named 1 80) value Done } ∷ [];
}

-- coupled Top { part a: Lamp; }
abbrev pub top : CoupledTree
top = record {
  name = named 3 105;
  inputs = [];
  outputs = [];
  parts = record { name = named 4 116; model = named 0 119 } ∷ [];
  links = [];
}

-- both, and root Top;
abbrev pub with_flag : Expression → FileTree
with_flag value = record {
  models = AtomicModel (lamp value) ∷ (CoupledModel top ∷ []);
  root = named 3 132;
}
