-- The statements of a block, as they lie in memory.
use Rattle.std.proofs.Common.{◌≡◌, List, [], ◌∷◌, map, refl, ap, ◌∙◌}
use Rattle.dv_syntax.specs.declared.tree.Stmt.{Stmt, Row_of-Stmt, end_of-Stmt, more_of-Stmt, items-the_row-Stmt, the_lemmas}
use Rattle.dv_syntax.specs.declared.tree.Stmt as stmt
use Rattle.dv_parser.specs.Reading.{single_of, single_before, joined}
use Rattle.dv_syntax.specs.Trees.{Statements, statement_before, row_statements, statements_of}

pub row_items : (n : _) (k : Row_of-Stmt n) → row_statements k ≡ statements_of (items-the_row-Stmt n k)
row_items n end_of-Stmt = refl
row_items n (more_of-Stmt s rest) = ap (statement_before s) (row_items _ rest)

-- the statements of a list, as single ones
one_before : (s : Stmt) (rest : Statements) → single_before (single_of s) rest ≡ statement_before s rest
one_before (stmt.Assign n e) rest = refl
one_before (stmt.Command c offset n) rest = refl
one_before (stmt.Send offset p e) rest = refl
one_before (stmt.If' offset e shape block) rest = refl
one_before (stmt.IfElse' offset e shape block other_shape other) rest = refl
one_before (stmt.For' offset v b shape block) rest = refl
one_before (stmt.Change c offset e x) rest = refl

pub joined_items : (items : List Stmt) → joined (map single_of items) ≡ statements_of items
joined_items [] = refl
joined_items (s ∷ items) = one_before s (joined (map single_of items)) ∙ ap (statement_before s) (joined_items items)

pub ruleset rows = (the_lemmas, row_items)
