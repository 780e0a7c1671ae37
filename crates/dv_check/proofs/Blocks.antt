-- What is wrong with the statements of a block.
use Rattle.std.proofs.Common.{◌≡◌, ℕ, List, ◌++◌, sym, ap, ◌∙◌, rules, Bor}
use Rattle.std.proofs.lemmas.List.Sums.{fold-append}
use Rattle.dv_lex.specs.declared.error.Refusal.{Refusal}
use Rattle.dv_syntax.specs.declared.tree.Name.{Name}
use Rattle.dv_syntax.specs.declared.tree.Stmt.{Stmt}
use Rattle.dv_syntax.specs.Trees.{Expression, Statements, If, IfElse, For, statement_before}
use Rattle.dv_check.specs.declared.environment.Environment.{Environment, Loop, the_lemmas}
use Rattle.dv_check.specs.declared.findings.Findings.{Findings}
use Rattle.dv_bag.specs.declared.value.ValueType.TheVariants.{Truth}
use Rattle.dv_check.specs.Findings.{with_refusal, with_refusals}
use Rattle.dv_check.specs.declared.wanted.Wanted.TheVariants as wanted
use Rattle.dv_check.specs.Types.{Known, held_name_refusals, offset_refusals}
use Rattle.dv_check.specs.Rules.{known_at, known_in_loop, loop_variable_refusals, statements_refusals}

-- one list of refusals behind another
with_refusals-append : (found : Findings) (xs ys : List Refusal)
    → with_refusals found (xs ++ ys) ≡ with_refusals (with_refusals found xs) ys
with_refusals-append found xs ys = fold-append with_refusal found xs ys

with_refusals_twice : (found found1 found2 : Findings) (xs ys zs : List Refusal) → found1 ≡ with_refusals found xs
    → found2 ≡ with_refusals found1 ys → with_refusals found2 zs ≡ with_refusals found (xs ++ (ys ++ zs))
with_refusals_twice found found1 found2 xs ys zs first second =
    ap (λ f. with_refusals f zs) (second ∙ ap (λ f. with_refusals f ys) first)
    ∙ sym (with_refusals-append (with_refusals found xs) ys zs)
    ∙ sym (with_refusals-append found xs (ys ++ zs))

with_refusals_thrice : (found found1 found2 found3 : Findings) (ws xs ys zs : List Refusal) → found1 ≡ with_refusals found ws
    → found2 ≡ with_refusals found1 xs → found3 ≡ with_refusals found2 ys
    → with_refusals found3 zs ≡ with_refusals found (ws ++ (xs ++ (ys ++ zs)))
with_refusals_thrice found found1 found2 found3 ws xs ys zs first second third =
    with_refusals_twice found1 found2 found3 xs ys zs second third
    ∙ ap (λ f. with_refusals f (xs ++ (ys ++ zs))) first
    ∙ sym (with_refusals-append found ws (xs ++ (ys ++ zs)))

-- what is known in the block of a loop
pub known_at-Loop : (variable : Name) (outer : Bor Environment)
    → known_at (Loop variable outer) ≡ known_in_loop variable (known_at outer.now)
known_at-Loop variable outer = search (rules, the_lemmas)

module _ (known : Known) (found found1 found2 : Findings) (s : Stmt) (offset : ℕ) (e : Expression) (block rest : Statements) where
  pub with_refusals-If : statement_before s rest ≡ If offset e block rest → found1 ≡ with_refusals found (offset_refusals Truth known e)
      → found2 ≡ with_refusals found1 (statements_refusals known block)
      → with_refusals found2 (statements_refusals known rest) ≡ with_refusals found (statements_refusals known (statement_before s rest))
  with_refusals-If tree first second =
      with_refusals_twice found found1 found2 (offset_refusals Truth known e) (statements_refusals known block)
      (statements_refusals known rest) first second
      ∙ ap (λ x. with_refusals found (statements_refusals known x)) (sym tree)

  pub with_refusals-IfElse : (other : Statements) (found3 : Findings) → statement_before s rest ≡ IfElse offset e block other rest
      → found1 ≡ with_refusals found (offset_refusals Truth known e) → found2 ≡ with_refusals found1 (statements_refusals known block)
      → found3 ≡ with_refusals found2 (statements_refusals known other)
      → with_refusals found3 (statements_refusals known rest) ≡ with_refusals found (statements_refusals known (statement_before s rest))
  with_refusals-IfElse other found3 tree first second third =
      with_refusals_thrice found found1 found2 found3 (offset_refusals Truth known e) (statements_refusals known block)
      (statements_refusals known other) (statements_refusals known rest) first second third
      ∙ ap (λ x. with_refusals found (statements_refusals known x)) (sym tree)

module _ (known : Known) (found found1 found2 found3 : Findings) (s : Stmt) (offset : ℕ) (variable bag : Name)
    (block rest : Statements) where
  pub with_refusals-For : statement_before s rest ≡ For offset variable bag block rest
      → found1 ≡ with_refusals found (loop_variable_refusals (known.offset variable.number) variable.offset)
      → found2 ≡ with_refusals found1 (held_name_refusals wanted.Values known.rule (known.sort bag.number) bag.offset)
      → found3 ≡ with_refusals found2 (statements_refusals (known_in_loop variable known) block)
      → with_refusals found3 (statements_refusals known rest) ≡ with_refusals found (statements_refusals known (statement_before s rest))
  with_refusals-For tree first second third =
      with_refusals_thrice found found1 found2 found3 (loop_variable_refusals (known.offset variable.number) variable.offset)
      (held_name_refusals wanted.Values known.rule (known.sort bag.number) bag.offset)
      (statements_refusals (known_in_loop variable known) block) (statements_refusals known rest) first second third
      ∙ ap (λ x. with_refusals found (statements_refusals known x)) (sym tree)
