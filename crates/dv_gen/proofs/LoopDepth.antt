-- How deep loops lie in the code's statements.
use Rattle.std.proofs.Common.{◌≡◌, ℕ, zero, suc, ◌+◌, ◌<◌, ◌≤◌, max, List, [], ◌∷◌, length, get_or, ap, arith}
use Rattle.dv_syntax.specs.declared.tree.Stmt.{Stmt}
use Rattle.dv_syntax.specs.declared.tree.Stmt as stmt
use Rattle.dv_syntax.specs.Grammar.{loop_depth}
use Rattle.dv_code.specs.Limits.{deepest_loops}
use Rattle.dv_syntax.specs.declared.tree.Name.{Name}
use Rattle.dv_syntax.specs.Trees.{Expression, Statements, Done, If, IfElse, For, statement_before, statements_of}

-- of a statement and the rest the deeper one counts
loop_depth-before : (s : Stmt) (rest : Statements)
    → loop_depth (statement_before s rest) ≡ max (loop_depth (statement_before s Done)) (loop_depth rest)
loop_depth-before (stmt.Assign name e) rest = omega arith
loop_depth-before (stmt.Command c offset name) rest = omega arith
loop_depth-before (stmt.Send offset port e) rest = omega arith
loop_depth-before (stmt.If' offset e shape block) rest = omega arith
loop_depth-before (stmt.IfElse' offset e shape block other_shape other) rest = omega arith
loop_depth-before (stmt.For' offset v b shape block) rest = omega arith
loop_depth-before (stmt.Change c offset e collection) rest = omega arith

-- no statement of a list is deeper than the list
pub loop_depth-at : (statements : List Stmt) (i : ℕ) (d : Stmt) → i < length statements
    → loop_depth (statement_before (get_or statements i d) Done) ≤ loop_depth (statements_of statements)
loop_depth-at [] i d within = absurd (omega arith)
loop_depth-at (s ∷ statements) zero d within = omega (arith, loop_depth-before s (statements_of statements))
loop_depth-at (s ∷ statements) (suc i) d within =
    omega (arith, loop_depth-before s (statements_of statements), loop_depth-at statements i d (omega arith))

-- ---- The blocks of a statement, below some loops

module _ (outer : ℕ) (s : Statements) (offset : ℕ) (e : Expression) (shallow : outer + loop_depth s ≤ deepest_loops) where
  pub block_shallow : (block : Statements) → s ≡ If offset e block Done → outer + loop_depth block ≤ deepest_loops
  block_shallow block tree = let depth = ap loop_depth tree in omega arith

  pub first_shallow : (block other : Statements) → s ≡ IfElse offset e block other Done → outer + loop_depth block ≤ deepest_loops
  first_shallow block other tree = let depth = ap loop_depth tree in omega arith

  pub other_shallow : (block other : Statements) → s ≡ IfElse offset e block other Done → outer + loop_depth other ≤ deepest_loops
  other_shallow block other tree = let depth = ap loop_depth tree in omega arith

pub loop_shallow : (outer : ℕ) (s : Statements) (offset : ℕ) (v b : Name) (block : Statements) → outer + loop_depth s ≤ deepest_loops
    → s ≡ For offset v b block Done → suc outer + loop_depth block ≤ deepest_loops
loop_shallow outer s offset v b block shallow tree = let depth = ap loop_depth tree in omega arith
