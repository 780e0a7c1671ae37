-- A model with a queue and a bag, alone in a coupled model, by its internal rule.
use Rattle.std.specs.Prelude.{ℕ, [], ◌∷◌, None}
use Rattle.dv_syntax.specs.declared.tree.BagCall.{BagCall}
use Rattle.dv_syntax.specs.declared.tree.Command.TheVariants as command
use Rattle.dv_syntax.specs.declared.tree.Declaration.TheVariants.{Var, Held}
use Rattle.dv_syntax.specs.declared.tree.RuleSort.TheVariants as rule
use Rattle.dv_syntax.specs.Trees.{Call, Statements, Done, Assign, Does, Changes, AtomicTree, AtomicModel, CoupledModel, FileTree}
use Rattle.dv_bag.specs.declared.discipline.Change.{Change}
use Rattle.dv_bag.specs.declared.discipline.Discipline.TheVariants as discipline
use Rattle.law_accepted.specs.Bags.{digit, top}
use Rattle.law_accepted.specs.Clock.{literal, named}

-- the names: 0 Line, 2 n, 3 q, 4 b, 5 z, 7 Top, 8 a
-- var n: 0..9 = 0; queue q 8; bag b 8; phases z; start z; hold z: forever; internal z { BODY }
abbrev pub line : Statements → AtomicTree
line body = record {
  name = named 0 7;
  declarations =
      Var digit
      ∷ (Held (record { discipline = discipline.Queue; name = named 3 43; capacity = record { value = 8; offset = 45 } })
      ∷ (Held (record { discipline = discipline.Bag; name = named 4 52; capacity = record { value = 8; offset = 54 } })
      ∷ []));
  phases = record { offset = 57; names = named 5 64 ∷ [] } ∷ [];
  starts = record { offset = 67; phase = named 5 73 } ∷ [];
  holds = record { offset = 76; phase = named 5 81; ticks = None } ∷ [];
  rules = record { sort = rule.Internal; phase = named 5 101; body = body } ∷ [];
}

-- the file with it
abbrev pub with_line : Statements → FileTree
with_line body = record {
  models = AtomicModel (line body) ∷ (CoupledModel top ∷ []);
  root = named 7 387;
}

-- n := CALL(NAME);
abbrev pub asking : BagCall → ℕ → FileTree
asking call name = with_line (Assign (named 2 105) (Call call 110 (named name 116)) Done)

-- CHANGE 1 to NAME;
abbrev pub changing_one : Change → ℕ → FileTree
changing_one c name = with_line (Changes c 105 (literal 1 110) (named name 115) Done)

-- pop NAME;
abbrev pub popping_from : ℕ → FileTree
popping_from name = with_line (Does command.Pop 105 (named name 109) Done)
