-- A model with a bag, alone in a coupled model, by the capacity of the bag, its hold, and the value that its rule assigns to a variable.
use Rattle.std.specs.Prelude.{ℕ, ◌+◌, [], ◌∷◌, false, Some}
use Rattle.dv_syntax.specs.declared.tree.BagCall.TheVariants.{Size}
use Rattle.dv_syntax.specs.declared.tree.Variable.{Variable}
use Rattle.dv_syntax.specs.declared.tree.Declaration.TheVariants.{Out, Var, Flag, Held}
use Rattle.dv_syntax.specs.declared.tree.Operator.TheVariants.{Subtract, Equal}
use Rattle.dv_syntax.specs.declared.tree.RuleSort.TheVariants as rule
use Rattle.dv_syntax.specs.Trees.{Expression, Named, Binary, Call, Times, Statements, Done, Assign, Send, If, For, Changes}
use Rattle.dv_syntax.specs.Trees.{AtomicTree, AtomicModel, CoupledTree, CoupledModel, FileTree}
use Rattle.dv_bag.specs.declared.discipline.Change.TheVariants as change
use Rattle.dv_bag.specs.declared.discipline.Discipline.TheVariants as discipline
use Rattle.law_accepted.specs.Clock.{bound, literal, named}

-- the names: 0 Heap, 1 y, 2 n, 3 b, 4 on, 5 z, 6 v, 7 Top, 8 a, 9 nosuch
-- var n: 0..9 = 0;
abbrev pub digit : Variable
digit = record { name = named 2 24; low = bound 0 27; high = bound 9 30; start = bound 0 34 }

-- for v in b { send y v; }
abbrev pub sending_all : Statements
sending_all = For 140 (named 6 144) (named 3 149) (Send 153 (named 1 158) (Named (named 6 160)) Done) Done

-- n := VALUE; add n to b; if times(n, b) = 2 { drop n from b; }
abbrev pub changing : Expression → Statements
changing value =
    Assign (named 2 200) value
    (Changes change.Add 300 (Named (named 2 304)) (named 3 309)
    (If 312 (Binary Equal (Times 315 (Named (named 2 321)) (named 3 324)) (literal 2 329))
    (Changes change.Drop 333 (Named (named 2 338)) (named 3 345) Done) Done))

-- out y; var n: 0..9 = 0; bag b CAPACITY; flag on = false; phases z; start z; hold z: TICKS; output z { .. } internal z { .. }
abbrev pub heap : ℕ → Expression → Expression → AtomicTree
heap capacity ticks value = record {
  name = named 0 7;
  declarations =
      Out (named 1 18)
      ∷ (Var digit
      ∷ (Held (record { discipline = discipline.Bag; name = named 3 41; capacity = record { value = capacity; offset = 43 } })
      ∷ (Flag (record { name = named 4 53; start = false })
      ∷ [])));
  phases = record { offset = 65; names = named 5 72 ∷ [] } ∷ [];
  starts = record { offset = 75; phase = named 5 81 } ∷ [];
  holds = record { offset = 84; phase = named 5 89; ticks = Some ticks } ∷ [];
  rules =
      record { sort = rule.Output; phase = named 5 136; body = sending_all }
      ∷ (record { sort = rule.Internal; phase = named 5 196; body = changing value }
      ∷ []);
}

-- coupled Top { part a: Heap; }
abbrev pub top : CoupledTree
top = record {
  name = named 7 360;
  inputs = [];
  outputs = [];
  parts = record { name = named 8 371; model = named 0 374 } ∷ [];
  links = [];
}

-- both, and root Top;
abbrev pub with_bag : ℕ → Expression → Expression → FileTree
with_bag capacity ticks value = record {
  models = AtomicModel (heap capacity ticks value) ∷ (CoupledModel top ∷ []);
  root = named 7 387;
}

-- size(NAME)
abbrev pub size_at : ℕ → ℕ → Expression
size_at offset name = Call Size offset (named name (offset + 5))

-- the file whose bag has a capacity of 8, and whose hold is the size of the bag
abbrev pub assigning : Expression → FileTree
assigning value = with_bag 8 (size_at 92 3) value

-- 0 - 1 - size(b): below 0
abbrev pub below_nothing : Expression
below_nothing = Binary Subtract (Binary Subtract (literal 0 92) (literal 1 96)) (size_at 100 3)
