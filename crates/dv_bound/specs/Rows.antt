-- A model in worked rows, by one of its holds and by the phases to which its external rule goes.
use Rattle.std.specs.Prelude.{ℕ, ℤ, [], ◌∷◌, false, Option, Some, None}
use Rattle.dv_syntax.specs.declared.tree.Bound.{Bound}
use Rattle.dv_syntax.specs.declared.tree.Variable.{Variable}
use Rattle.dv_syntax.specs.declared.tree.Declaration.TheVariants as declaration
use Rattle.dv_syntax.specs.declared.tree.BagCall.TheVariants.{Front, Least, Size}
use Rattle.dv_syntax.specs.declared.tree.Command.TheVariants as command
use Rattle.dv_syntax.specs.declared.tree.Operator.TheVariants as operator
use Rattle.dv_syntax.specs.declared.tree.RuleSort.TheVariants.{Internal, External}
use Rattle.dv_syntax.specs.Trees.{AtomicTree, Expression, HoldTree, Binary, Call, Named, Statements, Done, Does, IfElse, For}
use Rattle.dv_bag.specs.declared.discipline.Discipline.TheVariants as discipline
use Rattle.dv_eval.specs.Edges.{number}
use Rattle.dv_eval.specs.Scope.{scope_of}
use Rattle.dv_eval.specs.Rows.{named}
use Rattle.dv_bound.specs.Response.{low, response_of}

-- the names: 0 Server, 1 arrived, 2 load, 3 drift, 4 on, 5 jobs, 6 idle, 7 busy, 8 late, 9 v, 10 line
-- a bound of a range, not below 0
abbrev pub above : ℕ → Bound
above n = record { minus = None; magnitude = record { value = n; offset = 1 } }

-- and one below it
abbrev pub below : ℕ → Bound
below n = record { minus = Some 1; magnitude = record { value = n; offset = 1 } }

-- var load: 2..9 = 2;
abbrev pub load : Variable
load = record { name = named 2; low = above 2; high = above 9; start = above 2 }

-- var drift: -5..5 = 0;
abbrev pub drift : Variable
drift = record { name = named 3; low = below 5; high = above 5; start = above 0 }

-- hold PHASE: TICKS;
abbrev pub hold : ℕ → Option Expression → HoldTree
hold phase ticks = record { offset = 1; phase = named phase; ticks = ticks }

-- goto PHASE;
abbrev pub goto : ℕ → Statements → Statements
goto phase rest = Does command.Goto 1 (named phase) rest

-- in arrived; var load ..; var drift ..; flag on = false; bag jobs 8; queue line 8; phases idle, busy, late; start idle;
-- hold idle: 1; hold busy: TICKS; hold late: 7; external idle { .. } internal busy { goto idle; }
abbrev pub server : Option Expression → Statements → AtomicTree
server ticks body = record {
  name = named 0;
  declarations =
      declaration.In (named 1)
      ∷ declaration.Var load
      ∷ declaration.Var drift
      ∷ declaration.Flag (record { name = named 4; start = false })
      ∷ declaration.Held (record { discipline = discipline.Bag; name = named 5; capacity = record { value = 8; offset = 1 } })
      ∷ declaration.Held (record { discipline = discipline.Queue; name = named 10; capacity = record { value = 8; offset = 1 } })
      ∷ [];
  phases = record { offset = 1; names = named 6 ∷ named 7 ∷ named 8 ∷ [] } ∷ [];
  starts = record { offset = 1; phase = named 6 } ∷ [];
  holds = hold 6 (Some (number 1)) ∷ hold 7 ticks ∷ hold 8 (Some (number 7)) ∷ [];
  rules =
      record { sort = External; phase = named 6; body = body }
      ∷ record { sort = Internal; phase = named 7; body = goto 6 Done }
      ∷ [];
}

-- the response if the external rule goes to busy, which has this hold
abbrev pub response_to : Option Expression → Option ℕ
response_to ticks = response_of (server ticks (goto 7 Done))

-- the lower bound of a hold's expression in that model
abbrev pub low_in_server : Expression → ℤ
low_in_server e = low (scope_of (server None Done)) e

-- the response if the hold of busy is 5 ticks
abbrev pub response_by : Statements → Option ℕ
response_by body = response_of (server (Some (number 5)) body)

-- load
abbrev pub the_load : Expression
the_load = Named (named 2)

-- drift
abbrev pub the_drift : Expression
the_drift = Named (named 3)

-- size(jobs)
abbrev pub jobs_waiting : Expression
jobs_waiting = Call Size 1 (named 5)

-- least(jobs)
abbrev pub least_job : Expression
least_job = Call Least 1 (named 5)

-- size(line), and front(line)
abbrev pub line_waiting : Expression
line_waiting = Call Size 1 (named 10)

abbrev pub first_in_line : Expression
first_in_line = Call Front 1 (named 10)

-- a sum, and a difference
abbrev pub plus : Expression → Expression → Expression
plus x y = Binary operator.Add x y

abbrev pub minus : Expression → Expression → Expression
minus x y = Binary operator.Subtract x y

-- if on { .. } else { .. }
abbrev pub either : Statements → Statements → Statements
either block other = IfElse 1 (Named (named 4)) block other Done

-- for v in arrived { .. }
abbrev pub for_each : Statements → Statements
for_each block = For 1 (named 9) (named 1) block Done
