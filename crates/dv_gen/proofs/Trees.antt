-- The tree of a statement with blocks, by the law of `dv_syntax` and the items that the code takes from a block.
use Rattle.std.proofs.Common.{◌≡◌, ℕ, List, ap, sym, ◌∙◌}
use Rattle.dv_syntax.specs.declared.tree.Block.{Block}
use Rattle.dv_syntax.specs.declared.tree.Expr.{Expr}
use Rattle.dv_syntax.specs.declared.tree.Name.{Name}
use Rattle.dv_syntax.specs.declared.tree.Stmt.{Stmt}
use Rattle.dv_syntax.specs.declared.tree.Stmt as stmt
use Rattle.dv_syntax.specs.Trees.{Statements, If, IfElse, For, block_of, expression_of, statement_before, statements_of}

module _ (s : Stmt) (rest : Statements) where
  pub when_tree : (offset : ℕ) (e : Expr) (block : Block) (items : List Stmt) → s ≡ stmt.If offset e block
      → statement_before (stmt.If offset e block) rest ≡ If offset (expression_of e) (block_of block) rest
      → items ≡ block.statements.items → statement_before s rest ≡ If offset (expression_of e) (statements_of items) rest
  when_tree offset e block items is law same =
      ap (λ s. statement_before s rest) is ∙ law ∙ ap (λ items. If offset (expression_of e) (statements_of items) rest) (sym same)

  pub choice_tree : (offset : ℕ) (e : Expr) (block other : Block) (first second : List Stmt) → s ≡ stmt.IfElse offset e block other
      → statement_before (stmt.IfElse offset e block other) rest
      ≡ IfElse offset (expression_of e) (block_of block) (block_of other) rest
      → first ≡ block.statements.items → second ≡ other.statements.items
      → statement_before s rest ≡ IfElse offset (expression_of e) (statements_of first) (statements_of second) rest
  choice_tree offset e block other first second is law same_first same_second =
      ap (λ s. statement_before s rest) is ∙ law
      ∙ ap (λ items. IfElse offset (expression_of e) (statements_of items) (block_of other) rest) (sym same_first)
      ∙ ap (λ items. IfElse offset (expression_of e) (statements_of first) (statements_of items) rest) (sym same_second)

  pub loop_tree : (offset : ℕ) (v b : Name) (block : Block) (items : List Stmt) → s ≡ stmt.For offset v b block
      → statement_before (stmt.For offset v b block) rest ≡ For offset v b (block_of block) rest → items ≡ block.statements.items
      → statement_before s rest ≡ For offset v b (statements_of items) rest
  loop_tree offset v b block items is law same =
      ap (λ s. statement_before s rest) is ∙ law ∙ ap (λ items. For offset v b (statements_of items) rest) (sym same)
