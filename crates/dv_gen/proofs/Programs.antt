-- Generated programs are programs that the machine takes.
use Rattle.std.proofs.Common.{◌≡◌, ℕ, ◌^◌, ◌<◌, ◌≤◌, List, [], ◌∷◌, ◌++◌, length, refl, sym, ap, subst, ◌∙◌, arith}
use Rattle.dv_syntax.specs.Grammar.{loop_depth}
use Rattle.dv_syntax.specs.Trees.{Expression as NamedExpression, Statements as NamedStatements}
use Rattle.dv_syntax.specs.declared.tree.RuleSort.{RuleSort}
use Rattle.dv_syntax.specs.declared.tree.RuleSort.TheVariants as rule
use Rattle.dv_bag.specs.declared.value.ValueType.{ValueType}
use Rattle.dv_code.specs.Limits.{deepest_loops}
use Rattle.dv_code.specs.declared.instruction.Instruction.{Instruction}
use Rattle.dv_code.specs.declared.instruction.Instruction.TheVariants.{End}
use Rattle.dv_code.specs.Shape.{AreSmall, Shape, Tables, left_by, shape_of}
use Rattle.dv_code.specs.declared.shape.ProgramSort.{ProgramSort}
use Rattle.dv_code.specs.declared.shape.ProgramSort.TheVariants.{Hold}
use Rattle.dv_code.specs.Valid.{IsProgram, IsSafe, IsValid, Program}
use Rattle.dv_eval.specs.Scope.{Scope}
use Rattle.dv_gen.specs.Resolved.{AreTyped, Expression, IsTyped, Statements, type_of}
use Rattle.dv_gen.specs.Resolution.{all_resolved, hold_shape, program_sort, resolved, rule_shape, tables_of}
use Rattle.dv_gen.specs.Generator.{hold_program_of, program_of}
use Rattle.dv_gen.specs.Emission.{IsHoldTicks, IsRuleBody, hold_code, rule_code, with_expression, with_statements}

-- a program whose loops are nested no deeper is one whose loops are nested no deeper than more
deeper : (shape : Shape) (left : List ValueType) (depth more : ℕ) (code : List Instruction) → depth ≤ more → IsValid shape left depth code
    → IsValid shape left more code
deeper shape left depth more code within valid = record {
  marks = valid.marks;
  start = valid.start;
  each = λ address i there. let fine = valid.each address i there in
      record { lies = fine.lies; shallow = let so = fine.shallow in omega arith; agrees = fine.agrees };
}

-- a rule leaves nothing
rule_leaves : (sort : RuleSort) → left_by (program_sort sort) ≡ []
rule_leaves rule.Output = refl
rule_leaves rule.Internal = refl
rule_leaves rule.External = refl
rule_leaves rule.Confluent = refl

pub rule_is_safe : ((shape : Shape) (depth : ℕ) (body : Statements) → AreTyped shape depth 0 body
    → IsValid shape [] depth (program_of body))
    → (scope : Scope) (sort : RuleSort) (body : NamedStatements) → IsRuleBody scope sort body → AreSmall (tables_of scope).slots
    → IsSafe (rule_code scope sort body)
rule_is_safe valid scope sort body is small =
    let shape = rule_shape scope sort in
    let code = program_of (all_resolved scope [] body) in
    let whole = deeper shape [] (loop_depth body) deepest_loops code is.shallow
    (valid shape (loop_depth body) (all_resolved scope [] body) is.typed) in
    (subst (λ left. IsValid shape left deepest_loops code) (sym (rule_leaves sort)) whole, small)

pub hold_is_safe : ((shape : Shape) (e : Expression) → IsTyped shape 0 e → IsValid shape (type_of e ∷ []) 0 (hold_program_of e))
    → (scope : Scope) (e : NamedExpression) → IsHoldTicks scope e → AreSmall (tables_of scope).slots
    → IsSafe (hold_code scope e)
hold_is_safe valid scope e is small =
    let shape = hold_shape scope in
    let tree = resolved scope [] e in
    let code = hold_program_of tree in
    let whole = deeper shape (type_of tree ∷ []) 0 deepest_loops code (omega arith) (valid shape tree is.typed) in
    (subst (λ t. IsValid shape (t ∷ []) deepest_loops code) is.number whole, small)

-- a safe program that is short
short_program : (p : Program) → IsSafe p → length p.code < 2 ^ 32 → IsProgram p
short_program p safe short = record { valid = safe.0; small = safe.1; short = short }

-- ---- What is written from nothing on

abbrev program : Shape → List Instruction → Program
program shape code = record { shape = shape; code = code }

module _ (scope : Scope) (shape : Shape) (kept given : Tables) (sort : ProgramSort) (start draft whole code : List Instruction)
    (shaped : shape ≡ shape_of kept sort) (same : kept ≡ given) (tables : given ≡ tables_of scope) (nothing : start ≡ [])
    (ended : whole ≡ draft ++ End ∷ []) (finished : code ≡ whole) where
  shape_is : shape ≡ shape_of (tables_of scope) sort
  shape_is = shaped ∙ ap (λ t. shape_of t sort) (same ∙ tables)

  pub rule_written : (of : RuleSort) (body : NamedStatements) → sort ≡ program_sort of
      → draft ≡ with_statements start (all_resolved scope [] body)
      → program shape code ≡ rule_code scope of body
  unfolding with_statements
  rule_written of body sorted written =
      ap (λ s. program s code) (shape_is ∙ ap (shape_of (tables_of scope)) sorted)
      ∙ ap (program (rule_shape scope of)) (finished ∙ ended
      ∙ ap (λ xs. xs ++ End ∷ []) (written ∙ ap (λ xs. with_statements xs (all_resolved scope [] body)) nothing))

  pub hold_written : (e : NamedExpression) → sort ≡ Hold → draft ≡ with_expression start (resolved scope [] e)
      → program shape code ≡ hold_code scope e
  unfolding with_expression
  hold_written e sorted written =
      ap (λ s. program s code) (shape_is ∙ ap (shape_of (tables_of scope)) sorted)
      ∙ ap (program (hold_shape scope)) (finished ∙ ended
      ∙ ap (λ xs. xs ++ End ∷ []) (written ∙ ap (λ xs. with_expression xs (resolved scope [] e)) nothing))

-- a short program that is written is one that the machine takes
module _ (scope : Scope) (p : Program) (small : AreSmall (tables_of scope).slots) (short : length p.code < 2 ^ 32) where
  pub rule_fits : ((shape : Shape) (depth : ℕ) (body : Statements) → AreTyped shape depth 0 body → IsValid shape [] depth (program_of body))
      → (sort : RuleSort) (body : NamedStatements) → IsRuleBody scope sort body → p ≡ rule_code scope sort body → IsProgram p
  rule_fits valid sort body is written =
      short_program p (subst IsSafe (sym written) (rule_is_safe valid scope sort body is small)) short

  pub hold_fits : ((shape : Shape) (e : Expression) → IsTyped shape 0 e → IsValid shape (type_of e ∷ []) 0 (hold_program_of e))
      → (e : NamedExpression) → IsHoldTicks scope e → p ≡ hold_code scope e → IsProgram p
  hold_fits valid e is written =
      short_program p (subst IsSafe (sym written) (hold_is_safe valid scope e is small)) short
