-- A block in the code's tree, as a list of statements.
use Rattle.std.proofs.Common.{◌≡◌, ℕ, refl, ap, sym, ◌∙◌}
use mathlib.Core.Former.{Count}
use Rattle.dv_syntax.specs.declared.tree.Name.{Name}
use Rattle.dv_syntax.specs.declared.tree.Expr.{Expr}
use Rattle.dv_syntax.specs.declared.tree.Block.{Block}
use Rattle.dv_syntax.specs.declared.tree.Stmt.{Stmt, Row_of-Stmt, end_of-Stmt, more_of-Stmt, items-the_row-Stmt}
use Rattle.dv_syntax.specs.declared.tree.Stmt.{items_hidden-the_row-Stmt-0}
use Rattle.dv_syntax.specs.declared.tree.Stmt as stmt
use Rattle.dv_syntax.specs.Trees.{Statements, If, IfElse, For, block_of, expression_of, statement_before, row_statements, statements_of}

statements_of-row : (n : Count) (row : Row_of-Stmt n) → statements_of (items-the_row-Stmt n row) ≡ row_statements row
statements_of-row n end_of-Stmt = refl
statements_of-row n (more_of-Stmt s rest) = ap (statement_before s) (statements_of-row _ rest)

abbrev then_row : Stmt → (n : Count) × Row_of-Stmt n
then_row (stmt.If' offset e shape block) = (_, block)
then_row (stmt.IfElse' offset e shape block other_shape other) = (_, block)
then_row (stmt.For' offset v b shape block) = (_, block)
then_row _ = (_, end_of-Stmt)

abbrev else_row : Stmt → (n : Count) × Row_of-Stmt n
else_row (stmt.IfElse' offset e shape block other_shape other) = (_, other)
else_row _ = (_, end_of-Stmt)

pub tree_of_if : (offset : ℕ) (e : Expr) (block : Block) (rest : Statements)
    → statement_before (stmt.If offset e block) rest ≡ If offset (expression_of e) (block_of block) rest
tree_of_if offset e block rest =
    let row = then_row (stmt.If offset e block) in
    ap (λ b. If offset (expression_of e) b rest)
    (sym (statements_of-row row.0 row.1) ∙ ap statements_of (items_hidden-the_row-Stmt-0 block.statements))

pub tree_of_if_else : (offset : ℕ) (e : Expr) (block other : Block) (rest : Statements)
    → statement_before (stmt.IfElse offset e block other) rest
    ≡ IfElse offset (expression_of e) (block_of block) (block_of other) rest
tree_of_if_else offset e block other rest =
    let row = then_row (stmt.IfElse offset e block other) in
    let other_row = else_row (stmt.IfElse offset e block other) in
    ap (λ b. IfElse offset (expression_of e) b (row_statements other_row.1) rest)
    (sym (statements_of-row row.0 row.1) ∙ ap statements_of (items_hidden-the_row-Stmt-0 block.statements))
    ∙ ap (λ b. IfElse offset (expression_of e) (statements_of block.statements.items) b rest)
    (sym (statements_of-row other_row.0 other_row.1) ∙ ap statements_of (items_hidden-the_row-Stmt-0 other.statements))

pub tree_of_loop : (offset : ℕ) (v b : Name) (block : Block) (rest : Statements)
    → statement_before (stmt.For offset v b block) rest ≡ For offset v b (block_of block) rest
tree_of_loop offset v b block rest =
    let row = then_row (stmt.For offset v b block) in
    ap (λ inside. For offset v b inside rest)
    (sym (statements_of-row row.0 row.1) ∙ ap statements_of (items_hidden-the_row-Stmt-0 block.statements))
