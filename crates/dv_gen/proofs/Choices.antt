-- A choice between blocks: where the second one is empty it is none.
use Rattle.std.proofs.Common.{◌≡◌, ℕ, Bool, true, false, List, [], ◌∷◌, length, refl, sym, ap, ◌∙◌}
use Rattle.dv_syntax.specs.declared.tree.Block.{Block}
use Rattle.dv_syntax.specs.declared.tree.Expr.{Expr}
use Rattle.dv_syntax.specs.declared.tree.Stmt.{Stmt}
use Rattle.dv_syntax.specs.declared.tree.Stmt as stmt
use Rattle.dv_syntax.specs.Trees.{Statements as NamedStatements, IfElse, block_of, expression_of, row_statements}
use Rattle.dv_syntax.specs.Trees.{statement_before, statements_of}
use Rattle.dv_code.specs.declared.instruction.Instruction.{Instruction}
use Rattle.dv_eval.specs.Scope.{Scope}
use Rattle.dv_gen.specs.Emission.{with_statements}
use Rattle.dv_gen.specs.Resolved.{Expression, Statements, Done, Act, Obey, When, If, For}
use Rattle.dv_gen.specs.Resolution.{all_resolved, choice, resolved}
use Rattle.dv_gen.proofs.Trees.{choice_tree}

abbrev is_done : Statements → Bool
is_done Done = true
is_done (Act a value rest) = false
is_done (Obey d rest) = false
is_done (When condition block rest) = false
is_done (If condition block other rest) = false
is_done (For s block rest) = false

choice-some : (e : Expression) (block other rest : Statements) → is_done (choice e block other rest) ≡ false
choice-some e block Done rest = refl
choice-some e block (Act a value more) rest = refl
choice-some e block (Obey d more) rest = refl
choice-some e block (When condition inside more) rest = refl
choice-some e block (If condition inside other more) rest = refl
choice-some e block (For s inside more) rest = refl

choice-If : (e : Expression) (block other rest : Statements) → is_done other ≡ false → choice e block other rest ≡ If e block other rest
choice-If e block Done rest some = absurd (cc)
choice-If e block (Act a value more) rest some = refl
choice-If e block (Obey d more) rest some = refl
choice-If e block (When condition inside more) rest some = refl
choice-If e block (If condition inside other more) rest some = refl
choice-If e block (For s inside more) rest some = refl

module _ (scope : Scope) (loops : List ℕ) where
  statement-some : (s : Stmt) (rest : NamedStatements) → is_done (all_resolved scope loops (statement_before s rest)) ≡ false
  statement-some (stmt.Assign name e) rest = refl
  statement-some (stmt.Command c offset name) rest = refl
  statement-some (stmt.Send offset port e) rest = refl
  statement-some (stmt.If' offset e shape block) rest = refl
  statement-some (stmt.IfElse' offset e shape block other_shape other) rest =
      choice-some _ _ (all_resolved scope loops (row_statements other)) _
  statement-some (stmt.For' offset v b shape block) rest = refl
  statement-some (stmt.Change c offset e collection) rest = refl

  -- an empty second block
  pub choice_of_none : (e : Expression) (block : Statements) (other : List Stmt) (rest : Statements) → length other ≡ 0
      → choice e block (all_resolved scope loops (statements_of other)) rest ≡ When e block rest
  choice_of_none e block [] rest none = refl
  choice_of_none e block (s ∷ other) rest none = absurd (cc)

  -- a second block with statements
  pub choice_of_some : (e : Expression) (block : Statements) (other : List Stmt) (rest : Statements) → (length other ≡ 0 → ⊥)
      → choice e block (all_resolved scope loops (statements_of other)) rest ≡ If e block (all_resolved scope loops (statements_of other))
      rest
  choice_of_some e block [] rest some = absurd (some refl)
  choice_of_some e block (s ∷ other) rest some = choice-If e block _ rest (statement-some s (statements_of other))

  -- a program with the code of a choice, whichever statements it comes to
  pub with_statements-choice : (code : List Instruction) (s : Stmt) (rest : NamedStatements) (offset : ℕ) (e : Expr) (block other : Block)
      (first second : List Stmt) (chosen : Statements) → s ≡ stmt.IfElse offset e block other
      → statement_before (stmt.IfElse offset e block other) rest
      ≡ IfElse offset (expression_of e) (block_of block) (block_of other) rest
      → first ≡ block.statements.items → second ≡ other.statements.items
      → choice (resolved scope loops (expression_of e)) (all_resolved scope loops (statements_of first))
      (all_resolved scope loops (statements_of second)) (all_resolved scope loops rest)
      ≡ chosen
      → with_statements code chosen ≡ with_statements code (all_resolved scope loops (statement_before s rest))
  with_statements-choice code s rest offset e block other first second chosen is law same_first same_second comes =
      ap (with_statements code) (sym comes)
      ∙ ap (λ t. with_statements code (all_resolved scope loops t))
      (sym (choice_tree s rest offset e block other first second is law same_first same_second))
