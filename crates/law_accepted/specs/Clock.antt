-- A clock that ticks four times, alone in a coupled model.
use Rattle.std.specs.Prelude.{ℕ, ◌+◌, List, [], ◌∷◌, Some, None}
use Rattle.dv_syntax.specs.declared.tree.Name.{Name}
use Rattle.dv_syntax.specs.declared.tree.Bound.{Bound}
use Rattle.dv_syntax.specs.declared.tree.Command.TheVariants as command
use Rattle.dv_syntax.specs.declared.tree.Variable.{Variable}
use Rattle.dv_syntax.specs.declared.tree.Declaration.TheVariants.{Out, Var}
use Rattle.dv_syntax.specs.declared.tree.Link.{Link}
use Rattle.dv_syntax.specs.declared.tree.Operator.TheVariants as operator
use Rattle.dv_syntax.specs.declared.tree.RuleSort.TheVariants as rule
use Rattle.dv_syntax.specs.Trees.{Expression, Literal, Named, Binary, Statements, Done, Assign, Does, Send, IfElse, AtomicTree}
use Rattle.dv_syntax.specs.Trees.{AtomicModel, CoupledModel, CoupledTree, FileTree}

-- a name, a bound and a number at an offset
abbrev pub named : ℕ → ℕ → Name
named number offset = record { number = number; offset = offset }

abbrev pub bound : ℕ → ℕ → Bound
bound n offset = record { minus = None; magnitude = record { value = n; offset = offset } }

abbrev pub literal : ℕ → ℕ → Expression
literal n offset = Literal (record { value = n; offset = offset })

-- the names: 0 Tick, 1 beat, 2 n, 3 run, 4 stop, 5 Top, 6 o, 7 t
-- var n: 0..3 = 0;
abbrev pub count : Variable
count = record { name = named 2 30; low = bound 0 33; high = bound 3 36; start = bound 0 40 }

-- if n = 3 { goto stop; } else { n := n + 1; }
abbrev pub counting : Statements
counting =
    IfElse 200 (Binary operator.Equal (Named (named 2 203)) (literal 3 207)) (Does command.Goto 211 (named 4 216) Done)
    (Assign (named 2 231) (Binary operator.Add (Named (named 2 236)) (literal 1 240)) Done) Done

abbrev pub tick : AtomicTree
tick = record {
  name = named 0 7;
  declarations = Out (named 1 18) ∷ (Var count ∷ []);
  phases = record { offset = 50; names = named 3 57 ∷ (named 4 62 ∷ []) } ∷ [];
  starts = record { offset = 70; phase = named 3 76 } ∷ [];
  holds =
      record { offset = 90; phase = named 3 95; ticks = Some (literal 5 100) }
      ∷ (record { offset = 110; phase = named 4 115; ticks = None } ∷ []);
  rules =
      record { sort = rule.Output; phase = named 3 140; body = Send 146 (named 1 151) (Named (named 2 156)) Done }
      ∷ (record { sort = rule.Internal; phase = named 3 190; body = counting }
      ∷ []);
}

-- link t.beat -> self.o;
abbrev pub link_at : ℕ → Link
link_at offset =
    record {
      offset = offset;
      from = record { part = Some (named 7 (offset + 5)); port = named 1 (offset + 7) };
      to = record { part = None; port = named 6 (offset + 20) };
    }

-- coupled Top { out o; part t: Tick; LINKS }
abbrev pub top : List Link → CoupledTree
top links = record {
  name = named 5 310;
  inputs = [];
  outputs = named 6 320 ∷ [];
  parts = record { name = named 7 330; model = named 0 333 } ∷ [];
  links = links;
}

-- the file of the clock, with these links
abbrev pub clock : List Link → FileTree
clock links = record {
  models = AtomicModel tick ∷ (CoupledModel (top links) ∷ []);
  root = named 5 500;
}
