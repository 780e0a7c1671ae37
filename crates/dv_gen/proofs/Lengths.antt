-- A program has no more instructions than its rule or its hold has tokens, and so no more than its file may have.
use Rattle.std.proofs.Common.{◌≡◌, ℕ, ◌+◌, ◌≤◌, ◌^◌, List, [], ◌∷◌, ◌++◌, length, length-append, map, IfSome, Option, Some, None}
use Rattle.std.proofs.Common.{ap, sym, subst, arith}
use Rattle.std.specs.List.{All, AllByRecursion, flat_map}
use Rattle.std.proofs.lemmas.List.Elements.{All-from_recursion}
use Rattle.dv_lex.specs.declared.token.Keyword.TheVariants as keyword
use Rattle.dv_lex.specs.declared.token.Symbol.TheVariants as symbol
use Rattle.dv_syntax.specs.declared.tree.Name.{Name}
use Rattle.dv_syntax.specs.declared.tree.Operator.{Operator}
use Rattle.dv_syntax.specs.declared.tree.Operator.TheVariants as operator
use Rattle.dv_syntax.specs.declared.tree.Prefix.TheVariants as prefix
use Rattle.dv_syntax.specs.Grammar.{Anywhere, Spelled, braces, change_preposition, expression_spelling}
use Rattle.dv_syntax.specs.Grammar.{header_spelling, hold_spelling, item_spelling, model_spelling, name, operator_kind, rule_spelling, sign}
use Rattle.dv_syntax.specs.Grammar.{statements_spelling, word}
use Rattle.dv_syntax.specs.Trees.{AtomicTree, FileTree, HoldTree, ModelTree, RuleTree, Expression as NamedExpression, Literal, TruthValue}
use Rattle.dv_syntax.specs.Trees.{Named, Parens, Prefixed, Binary, Call, Elapsed, Times, Statements as NamedStatements, Done as Ended}
use Rattle.dv_syntax.specs.Trees.{Assign, Does, Send, If as IfOnly, IfElse, For as Each, Changes}
use Rattle.dv_syntax.specs.Written.{AtomicItem, Declares, Lists, Starts, Holds, Rules, WrittenModel, WrittenAtomic, WrittenCoupled}
use Rattle.dv_syntax.specs.Written.{sorted_items, sorted_model}
use Rattle.dv_syntax.proofs.Lengths.{length-braces}
use Rattle.dv_eval.specs.Scope.{Scope, scope_of}
use Rattle.dv_check.specs.Writable.{IsWritable}
use Rattle.dv_code.specs.declared.instruction.Instruction.TheVariants.{End}
use Rattle.dv_gen.specs.Generator.{code_of, code_of_all, hold_program_of, past, past_all, program_of}
use Rattle.dv_gen.specs.ModelCode.{HasProgramsWithin}
use Rattle.dv_gen.specs.Resolution.{all_resolved, choice, hold_tree, infix_of, resolved, rule_tree}
use Rattle.dv_gen.specs.Resolved.{Expression, Statements, Done}
use Rattle.dv_gen.proofs.Emission.{length-code_of, length-code_of_all}

-- ---- Expressions

-- the code of an expression ends so many addresses behind its first one, at most
abbrev EndsWithin : ℕ → Expression → Type 0
EndsWithin n e = (p : ℕ) → past p e ≤ p + n

infix_within : (o : Operator) (a b : Expression) (m n : ℕ) → EndsWithin m a → EndsWithin n b → EndsWithin (m + (1 + n)) (infix_of o a b)
infix_within operator.Or a b m n x y p = omega (arith, x p, y (past p a + 1))
infix_within operator.And a b m n x y p = omega (arith, x p, y (past p a + 1))
infix_within _ a b m n x y p = omega (arith, x p, y (past p a))

expression_within : (scope : Scope) (loops : List ℕ) (e : NamedExpression)
    → EndsWithin (length (expression_spelling e)) (resolved scope loops e)
expression_within scope loops (Literal n) p = omega arith
expression_within scope loops (TruthValue offset b) p = omega arith
expression_within scope loops (Named n) p = omega arith
expression_within scope loops (Parens offset e) p =
    omega (arith, expression_within scope loops e p, length-append (expression_spelling e) (sign symbol.CloseParen ∷ []))
expression_within scope loops (Prefixed prefix.Minus offset e) p = omega (arith, expression_within scope loops e p)
expression_within scope loops (Prefixed prefix.Not offset e) p = omega (arith, expression_within scope loops e p)
expression_within scope loops (Binary o a b) p =
    let left = expression_within scope loops a in
    let right = expression_within scope loops b in
    omega (
      arith,
      infix_within o (resolved scope loops a) (resolved scope loops b) _ _ left right p,
      length-append (expression_spelling a) (Anywhere (operator_kind o) ∷ expression_spelling b),
    )
expression_within scope loops (Call c offset b) p = omega arith
expression_within scope loops (Elapsed offset) p = omega arith
expression_within scope loops (Times offset e b) p =
    let behind = sign symbol.Comma ∷ name b ∷ sign symbol.CloseParen ∷ [] in
    omega (arith, expression_within scope loops e p, length-append (expression_spelling e) behind)

-- ---- Statements

-- the code of statements ends so many addresses behind its first one, at most
abbrev AllEndWithin : ℕ → Statements → Type 0
AllEndWithin n body = (p : ℕ) → past_all p body ≤ p + n

choice_within : (condition : Expression) (block other rest : Statements) (c b o r : ℕ) → EndsWithin c condition → AllEndWithin b block
    → AllEndWithin o other → AllEndWithin r rest → AllEndWithin (c + (b + (o + (r + 2)))) (choice condition block other rest)
choice_within condition block Done rest c b o r x y z w p =
    let then_at = past p condition + 1 in
    omega (arith, x p, y then_at, w (past_all then_at block))
choice_within condition block other rest c b o r x y z w p =
    let then_at = past p condition + 1 in
    let else_at = past_all then_at block + 1 in
    omega (arith, x p, y then_at, z else_at, w (past_all else_at other))

-- a block in braces, and what follows it
length-block : (inside rest : List Spelled) → length (braces inside ++ rest) ≡ length inside + 2 + length rest
length-block inside rest = omega (arith, length-append (braces inside) rest, length-braces inside)

statements_within : (scope : Scope) (loops : List ℕ) (body : NamedStatements)
    → AllEndWithin (length (statements_spelling body)) (all_resolved scope loops body)
statements_within scope loops Ended p = omega arith
statements_within scope loops (Assign variable e rest) p =
    let behind = sign symbol.Semicolon ∷ statements_spelling rest in
    let later = statements_within scope loops rest (past p (resolved scope loops e) + 1) in
    omega (arith, expression_within scope loops e p, later, length-append (expression_spelling e) behind)
statements_within scope loops (Does c offset name rest) p = omega (arith, statements_within scope loops rest (p + 1))
statements_within scope loops (Send offset port e rest) p =
    let behind = sign symbol.Semicolon ∷ statements_spelling rest in
    let later = statements_within scope loops rest (past p (resolved scope loops e) + 1) in
    omega (arith, expression_within scope loops e p, later, length-append (expression_spelling e) behind)
statements_within scope loops (IfOnly offset e block rest) p =
    let behind = braces (statements_spelling block) ++ statements_spelling rest in
    let then_at = past p (resolved scope loops e) + 1 in
    omega (
      arith,
      expression_within scope loops e p,
      statements_within scope loops block then_at,
      statements_within scope loops rest (past_all then_at (all_resolved scope loops block)),
      length-append (expression_spelling e) behind,
      length-block (statements_spelling block) (statements_spelling rest),
    )
statements_within scope loops (IfElse offset e block other rest) p =
    let last = braces (statements_spelling other) ++ statements_spelling rest in
    let behind = braces (statements_spelling block) ++ word keyword.Else ∷ last in
    omega (
      arith,
      choice_within (resolved scope loops e) (all_resolved scope loops block) (all_resolved scope loops other)
          (all_resolved scope loops rest) _ _ _ _ (expression_within scope loops e) (statements_within scope loops block)
          (statements_within scope loops other) (statements_within scope loops rest) p,
      length-append (expression_spelling e) behind,
      length-block (statements_spelling block) (word keyword.Else ∷ last),
      length-block (statements_spelling other) (statements_spelling rest),
    )
statements_within scope loops (Each offset v b block rest) p =
    let inside = all_resolved scope (v.number ∷ loops) block in
    omega (
      arith,
      statements_within scope (v.number ∷ loops) block (p + 1),
      statements_within scope loops rest (past_all (p + 1) inside + 1),
      length-block (statements_spelling block) (statements_spelling rest),
    )
statements_within scope loops (Changes c offset e collection rest) p =
    let behind = word (change_preposition c) ∷ name collection ∷ sign symbol.Semicolon ∷ statements_spelling rest in
    let later = statements_within scope loops rest (past p (resolved scope loops e) + 1) in
    omega (arith, expression_within scope loops e p, later, length-append (expression_spelling e) behind)

-- ---- Rules and holds

pub rule_within : (m : AtomicTree) (r : RuleTree) → length (program_of (rule_tree m r.body)) ≤ length (rule_spelling r)
rule_within m r =
    let body = rule_tree m r.body in
    omega (
      arith,
      statements_within (scope_of m) [] r.body 0,
      length-code_of_all body 0,
      length-append (code_of_all 0 body) (End ∷ []),
      length-braces (statements_spelling r.body),
    )

ticks_within : (m : AtomicTree) (offset : ℕ) (phase : Name) (ticks : Option NamedExpression)
    → IfSome ticks (λ e. length (hold_program_of (hold_tree m e))
    ≤ length (hold_spelling (record { offset = offset; phase = phase; ticks = ticks })))
ticks_within m offset phase None = tt
ticks_within m offset phase (Some e) =
    omega (
      arith,
      expression_within (scope_of m) [] e 0,
      length-code_of (hold_tree m e) 0,
      length-append (code_of 0 (hold_tree m e)) (End ∷ []),
      length-append (expression_spelling e) (sign symbol.Semicolon ∷ []),
    )

pub hold_within : (m : AtomicTree) (h : HoldTree)
    → IfSome h.ticks (λ e. length (hold_program_of (hold_tree m e)) ≤ length (hold_spelling h))
hold_within m h = ticks_within m h.offset h.phase h.ticks

-- ---- Files

-- what stands in a list of tokens is no longer than the list
front_within : (front rest : List Spelled) (n : ℕ) → length (front ++ rest) ≤ n → length front ≤ n
front_within front rest n within = omega (arith, within, length-append front rest)

rest_within : (front rest : List Spelled) (n : ℕ) → length (front ++ rest) ≤ n → length rest ≤ n
rest_within front rest n within = omega (arith, within, length-append front rest)

if_within : {T : Type 0} (o : Option T) (size : T → ℕ) (least most : ℕ) → least ≤ most → IfSome o (λ x. size x ≤ least)
    → IfSome o (λ x. size x ≤ most)
if_within None size least most more h = tt
if_within (Some x) size least most more h = omega (arith, more, h)

-- the programs of rules and holds, as parts of the whole model, are no longer than what the items are written with
module _ (m : AtomicTree) (n : ℕ) where
  abbrev RuleWithin : RuleTree → Type 0
  RuleWithin r = length (program_of (rule_tree m r.body)) ≤ n

  abbrev HoldWithin : HoldTree → Type 0
  HoldWithin h = IfSome h.ticks (λ e. length (hold_program_of (hold_tree m e)) ≤ n)

  items_within : (name : Name) (items : List AtomicItem) → length (flat_map item_spelling items) ≤ n
      → AllByRecursion RuleWithin (sorted_items name items).rules × AllByRecursion HoldWithin (sorted_items name items).holds
  items_within name [] within = (tt, tt)
  items_within name (Rules r ∷ items) within =
      let more = items_within name items (rest_within (rule_spelling r) (flat_map item_spelling items) n within) in
      let own = front_within (rule_spelling r) (flat_map item_spelling items) n within in
      ((omega (arith, own, rule_within m r), more.0), more.1)
  items_within name (Holds h ∷ items) within =
      let more = items_within name items (rest_within (hold_spelling h) (flat_map item_spelling items) n within) in
      let own = front_within (hold_spelling h) (flat_map item_spelling items) n within in
      let short = if_within h.ticks (λ e. length (hold_program_of (hold_tree m e))) _ n own (hold_within m h) in
      (more.0, (short, more.1))
  items_within name (Declares d ∷ items) within =
      items_within name items (rest_within (item_spelling (Declares d)) (flat_map item_spelling items) n within)
  items_within name (Lists p ∷ items) within =
      items_within name items (rest_within (item_spelling (Lists p)) (flat_map item_spelling items) n within)
  items_within name (Starts s ∷ items) within =
      items_within name items (rest_within (item_spelling (Starts s)) (flat_map item_spelling items) n within)

models_within : (n : ℕ) (written : List WrittenModel) → length (flat_map model_spelling written) ≤ n
    → AllByRecursion (HasProgramsWithin n) (map sorted_model written)
models_within n [] within = tt
models_within n (WrittenAtomic name items ∷ written) within =
    let m = sorted_items name items in
    let own = front_within (model_spelling (WrittenAtomic name items)) (flat_map model_spelling written) n within in
    let inside : length (flat_map item_spelling items) ≤ n = omega (arith, own, length-braces (flat_map item_spelling items)) in
    let all = items_within m n name items inside in (
      record {
        rules = All-from_recursion (RuleWithin m n) m.rules all.0;
        holds = All-from_recursion (HoldWithin m n) m.holds all.1;
      },
      models_within n written (rest_within (model_spelling (WrittenAtomic name items)) (flat_map model_spelling written) n within),
    )
models_within n (WrittenCoupled name items ∷ written) within =
    (tt, models_within n written (rest_within (model_spelling (WrittenCoupled name items)) (flat_map model_spelling written) n within))

-- the programs of a file that could be written down
pub file_within : (f : FileTree) → IsWritable f → All (λ (m : ModelTree). HasProgramsWithin (2 ^ 27) m) f.models
file_within f writable =
    let written = writable.written in
    let spelled = flat_map model_spelling written.models in
    let behind : List Spelled = word keyword.Root ∷ name written.root ∷ sign symbol.Semicolon ∷ [] in
    let own : length spelled ≤ 2 ^ 27 =
    front_within spelled behind (2 ^ 27) (rest_within (header_spelling written.header) (spelled ++ behind) (2 ^ 27) writable.few) in
    All-from_recursion (λ (m : ModelTree). HasProgramsWithin (2 ^ 27) m) f.models
    (subst (λ models. AllByRecursion (HasProgramsWithin (2 ^ 27)) models) (sym (ap (λ (g : FileTree). g.models) writable.tree))
    (models_within (2 ^ 27) written.models own))
