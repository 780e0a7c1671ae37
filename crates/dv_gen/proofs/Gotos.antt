-- The gotos of a tree are the deeds Go of its program, and those of the text whose names became its indices.
use Rattle.std.proofs.Common.{◌≡◌, ℕ, ◌+◌, List, [], ◌∷◌, ◌++◌, append-nil, append_assoc, map, refl, sym, ap, ◌∙◌}
use mathlib.Core.List.{map-append}
use Rattle.dv_syntax.specs.Trees.{Statements as NamedStatements, Done as Ended, Assign, Does, Send, If as IfOnly, IfElse}
use Rattle.dv_syntax.specs.Trees.{For as Each, Changes}
use Rattle.dv_syntax.specs.declared.tree.Command.{Command}
use Rattle.dv_syntax.specs.declared.tree.Command.TheVariants as command
use Rattle.dv_syntax.specs.declared.tree.Name.{Name}
use Rattle.dv_eval.specs.Scope.{Scope, index_of}
use Rattle.law_accepted.specs.Gotos.{goto_of, gotos_in}
use Rattle.dv_code.specs.declared.instruction.Instruction.{Instruction}
use Rattle.dv_code.specs.declared.instruction.Instruction.TheVariants.{Do}
use Rattle.dv_gen.specs.Resolved.{Expression, Read, Prefix, Infix, And, Or, Statements, Done, Act, Obey, When, If, For, gone, gotos}
use Rattle.dv_gen.specs.Generator.{past, code_of, past_all, code_of_all, goes, program_of, hold_program_of}
use Rattle.dv_gen.specs.Resolution.{all_resolved, choice, deed_of, goto_indices, index_or_first, resolved}

goes_append : (is js : List Instruction) → goes (is ++ js) ≡ goes is ++ goes js
goes_append [] js = refl
goes_append (Do d ∷ is) js = ap (λ phases. gone d ++ phases) (goes_append is js) ∙ sym (append_assoc (gone d) (goes is) (goes js))
goes_append (i ∷ is) js = goes_append is js

-- code after code that goes to these phases
goes_after : (is js : List Instruction) (phases : List ℕ) → goes is ≡ phases → goes (is ++ js) ≡ phases ++ goes js
goes_after is js phases e = goes_append is js ∙ ap (λ ps. ps ++ goes js) e

-- the code of an expression goes nowhere
goes_nowhere : (e : Expression) (p : ℕ) → goes (code_of p e) ≡ []
goes_nowhere (Read l) p = refl
goes_nowhere (Prefix u a) p = goes_after (code_of p a) _ [] (goes_nowhere a p)
goes_nowhere (Infix o a b) p =
    goes_after (code_of p a) _ [] (goes_nowhere a p) ∙ goes_after (code_of (past p a) b) _ [] (goes_nowhere b (past p a))
goes_nowhere (And a b) p = goes_after (code_of p a) _ [] (goes_nowhere a p) ∙ goes_nowhere b (past p a + 1)
goes_nowhere (Or a b) p = goes_after (code_of p a) _ [] (goes_nowhere a p) ∙ goes_nowhere b (past p a + 1)

goes_past : (e : Expression) (p : ℕ) (js : List Instruction) → goes (code_of p e ++ js) ≡ goes js
goes_past e p js = goes_after (code_of p e) js [] (goes_nowhere e p)

-- the code of statements goes to the phases of their gotos
goes_all : (block : Statements) (p : ℕ) → goes (code_of_all p block) ≡ gotos block
goes_all Done p = refl
goes_all (Act a value rest) p = goes_past value p _ ∙ goes_all rest (past p value + 1)
goes_all (Obey d rest) p = ap (λ phases. gone d ++ phases) (goes_all rest (p + 1))
goes_all (When condition block rest) p =
    let then_at = past p condition + 1 in
    goes_past condition p _
    ∙ goes_after (code_of_all then_at block) _ (gotos block) (goes_all block then_at)
    ∙ ap (λ phases. gotos block ++ phases) (goes_all rest (past_all then_at block))
goes_all (If condition block other rest) p =
    let then_at = past p condition + 1 in
    let else_at = past_all then_at block + 1 in
    goes_past condition p _
    ∙ goes_after (code_of_all then_at block) _ (gotos block) (goes_all block then_at)
    ∙ ap (λ phases. gotos block ++ phases)
    (goes_after (code_of_all else_at other) _ (gotos other) (goes_all other else_at)
    ∙ ap (λ phases. gotos other ++ phases) (goes_all rest (past_all else_at other)))
goes_all (For s block rest) p =
    goes_after (code_of_all (p + 1) block) _ (gotos block) (goes_all block (p + 1))
    ∙ ap (λ phases. gotos block ++ phases) (goes_all rest (past_all (p + 1) block + 1))

pub rule_goes : (body : Statements) → goes (program_of body) ≡ gotos body
rule_goes body = goes_append (code_of_all 0 body) _ ∙ append-nil (goes (code_of_all 0 body)) ∙ goes_all body 0

pub hold_goes : (e : Expression) → goes (hold_program_of e) ≡ []
hold_goes e = goes_past e 0 _

-- ---- The gotos of a text

-- a choice goes where its blocks go, and then what stands behind it
choice_gotos : (condition : Expression) (block other rest : Statements)
    → gotos (choice condition block other rest) ≡ gotos block ++ (gotos other ++ gotos rest)
choice_gotos condition block Done rest = refl
choice_gotos condition block (Act a value more) rest = refl
choice_gotos condition block (Obey d more) rest = refl
choice_gotos condition block (When inner then more) rest = refl
choice_gotos condition block (If inner then otherwise more) rest = refl
choice_gotos condition block (For s body more) rest = refl

module _ (scope : Scope) where
  abbrev index_of_phase : ℕ → ℕ
  index_of_phase name = index_or_first (index_of name scope.phases)

  -- a block before a rest
  gotos_before : (block rest : List ℕ) (names more : List ℕ) → block ≡ map index_of_phase names → rest ≡ map index_of_phase more
      → block ++ rest ≡ map index_of_phase (names ++ more)
  gotos_before block rest names more e f =
      ap (λ offsets. offsets ++ rest) e
      ∙ ap (λ offsets. map index_of_phase names ++ offsets) f
      ∙ sym (map-append index_of_phase names more)

  -- a command goes to the index of the phase to which it went
  gone_indices : (c : Command) (name : Name) → gone (deed_of scope c name.number) ≡ map index_of_phase (goto_of c name)
  gone_indices command.Goto name = refl
  gone_indices command.Pop name = refl

  -- statements whose names became indices go to the indices of the phases to which they went
  pub resolved_gotos : (loops : List ℕ) (body : NamedStatements) → gotos (all_resolved scope loops body) ≡ goto_indices scope body
  resolved_gotos loops Ended = refl
  resolved_gotos loops (Assign variable e rest) = resolved_gotos loops rest
  resolved_gotos loops (Does c offset name rest) =
      gotos_before _ _ (goto_of c name) (gotos_in rest) (gone_indices c name) (resolved_gotos loops rest)
  resolved_gotos loops (Send offset port e rest) = resolved_gotos loops rest
  resolved_gotos loops (IfOnly offset e block rest) =
      gotos_before _ _ (gotos_in block) (gotos_in rest) (resolved_gotos loops block) (resolved_gotos loops rest)
  resolved_gotos loops (IfElse offset e block other rest) =
      choice_gotos (resolved scope loops e) (all_resolved scope loops block) (all_resolved scope loops other)
      (all_resolved scope loops rest)
      ∙ gotos_before _ _ (gotos_in block) (gotos_in other ++ gotos_in rest) (resolved_gotos loops block)
      (gotos_before _ _ (gotos_in other) (gotos_in rest) (resolved_gotos loops other) (resolved_gotos loops rest))
  resolved_gotos loops (Each offset v b block rest) =
      gotos_before _ _ (gotos_in block) (gotos_in rest) (resolved_gotos (v.number ∷ loops) block) (resolved_gotos loops rest)
  resolved_gotos loops (Changes c offset e collection rest) = resolved_gotos loops rest
