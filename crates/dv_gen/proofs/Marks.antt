-- Generated code with the mark of each address.
use Rattle.std.proofs.Common.{◌≡◌, ℕ, ◌+◌, List, [], ◌∷◌, ◌++◌, append_assoc, map, Option, refl, sym, ap, ◌∙◌}
use Rattle.std.specs.Prelude.{slice_get, option_map}
use Rattle.std.proofs.lemmas.Option.{slice_get-map}
use Rattle.dv_bag.specs.declared.value.ValueType.{ValueType}
use Rattle.dv_code.specs.Valid.{Body, Mark, mark}
use Rattle.dv_code.specs.declared.instruction.Instruction.{Instruction}
use Rattle.dv_code.specs.declared.instruction.Instruction.TheVariants as code
use Rattle.dv_gen.specs.Resolved.{Expression, Read, Prefix, Infix, And, Or, Statements, Done, Act, Obey, When, If, For, type_of}
use Rattle.dv_gen.specs.Generator.{past, code_of, past_all, code_of_all}

-- an instruction, and the mark of its address
pub record MarkedInstruction : Type 0 where
  pub instruction : Instruction
  pub mark : Mark

abbrev pub with_mark : Instruction → List ValueType → List Body → MarkedInstruction
with_mark i types nest = record { instruction = i; mark = mark types nest }

abbrev pub instructions : List MarkedInstruction → List Instruction
instructions program = map (λ (i : MarkedInstruction). i.instruction) program

-- at each address the instruction without its mark
pub instruction_at : (program : List MarkedInstruction) (p : ℕ) (o : Option MarkedInstruction) → slice_get program p ≡ o
    → slice_get (instructions program) p ≡ option_map (λ (i : MarkedInstruction). i.instruction) o
instruction_at program p o e =
    slice_get-map (λ (i : MarkedInstruction). i.instruction) program p
    ∙ ap (option_map (λ (i : MarkedInstruction). i.instruction)) e

-- the body of a loop that begins at an address
abbrev pub body_at : ℕ → Statements → Body
body_at p block = record { first = p + 1; past = past_all (p + 1) block + 1 }

-- the code of an expression with its marks, and then the rest
abbrev pub marked_code_of : ℕ → List ValueType → List Body → Expression → List MarkedInstruction → List MarkedInstruction
marked_code_of p types nest (Read l) rest = with_mark (code.Push l) types nest ∷ rest
marked_code_of p types nest (Prefix u a) rest =
    marked_code_of p types nest a (with_mark (code.Apply u) (type_of a ∷ types) nest ∷ rest)
marked_code_of p types nest (Infix o a b) rest =
    marked_code_of p types nest a
    (marked_code_of (past p a) (type_of a ∷ types) nest b (with_mark (code.Combine o) (type_of b ∷ type_of a ∷ types) nest ∷ rest))
marked_code_of p types nest (And a b) rest =
    marked_code_of p types nest a
    (with_mark (code.FalseKeep (past (past p a + 1) b)) (type_of a ∷ types) nest ∷ marked_code_of (past p a + 1) types nest b rest)
marked_code_of p types nest (Or a b) rest =
    marked_code_of p types nest a
    (with_mark (code.TrueKeep (past (past p a + 1) b)) (type_of a ∷ types) nest ∷ marked_code_of (past p a + 1) types nest b rest)

-- the code of statements with its marks, and then the rest
abbrev pub marked_code_of_all : ℕ → List Body → Statements → List MarkedInstruction → List MarkedInstruction
marked_code_of_all p nest Done after = after
marked_code_of_all p nest (Act a value rest) after =
    marked_code_of p [] nest value
    (with_mark (code.Perform a) (type_of value ∷ []) nest ∷ marked_code_of_all (past p value + 1) nest rest after)
marked_code_of_all p nest (Obey d rest) after = with_mark (code.Do d) [] nest ∷ marked_code_of_all (p + 1) nest rest after
marked_code_of_all p nest (When condition block rest) after =
    let then_at = past p condition + 1 in
    let end_at = past_all then_at block in
    marked_code_of p [] nest condition
    (with_mark (code.JumpFalse end_at) (type_of condition ∷ []) nest
    ∷ marked_code_of_all then_at nest block (marked_code_of_all end_at nest rest after))
marked_code_of_all p nest (If condition block other rest) after =
    let then_at = past p condition + 1 in
    let else_at = past_all then_at block + 1 in
    let end_at = past_all else_at other in
    marked_code_of p [] nest condition
    (with_mark (code.JumpFalse else_at) (type_of condition ∷ []) nest
    ∷ marked_code_of_all then_at nest block
    (with_mark (code.Jump end_at) [] nest ∷ marked_code_of_all else_at nest other (marked_code_of_all end_at nest rest after)))
marked_code_of_all p nest (For s block rest) after =
    let next = past_all (p + 1) block in
    with_mark (code.Loop s (next + 1)) [] nest
    ∷ marked_code_of_all (p + 1) (body_at p block ∷ nest) block
    (with_mark (code.Next (p + 1)) [] (body_at p block ∷ nest) ∷ marked_code_of_all (next + 1) nest rest after)

-- code in two parts, each in its place
code_joins : (xs ys zs : List Instruction) {all tail : List Instruction} → all ≡ xs ++ tail → tail ≡ ys ++ zs → all ≡ (xs ++ ys) ++ zs
code_joins xs ys zs first second = first ∙ ap (λ is. xs ++ is) second ∙ sym (append_assoc xs ys zs)

-- without the marks it is the code
pub same_code : (e : Expression) (p : ℕ) (types : List ValueType) (nest : List Body) (rest : List MarkedInstruction)
    → instructions (marked_code_of p types nest e rest) ≡ code_of p e ++ instructions rest
same_code (Read l) p types nest rest = refl
same_code (Prefix u a) p types nest rest = code_joins (code_of p a) _ (instructions rest) (same_code a p types nest _) refl
same_code (Infix o a b) p types nest rest =
    code_joins (code_of p a) _ (instructions rest) (same_code a p types nest _)
    (code_joins (code_of (past p a) b) _ (instructions rest) (same_code b (past p a) (type_of a ∷ types) nest _) refl)
same_code (And a b) p types nest rest =
    code_joins (code_of p a) _ (instructions rest) (same_code a p types nest _)
    (ap (λ is. code.FalseKeep (past (past p a + 1) b) ∷ is) (same_code b (past p a + 1) types nest rest))
same_code (Or a b) p types nest rest =
    code_joins (code_of p a) _ (instructions rest) (same_code a p types nest _)
    (ap (λ is. code.TrueKeep (past (past p a + 1) b) ∷ is) (same_code b (past p a + 1) types nest rest))

pub same_code_all : (block : Statements) (p : ℕ) (nest : List Body) (after : List MarkedInstruction)
    → instructions (marked_code_of_all p nest block after) ≡ code_of_all p block ++ instructions after
same_code_all Done p nest after = refl
same_code_all (Act a value rest) p nest after =
    code_joins (code_of p value) _ (instructions after) (same_code value p [] nest _)
    (ap (λ is. code.Perform a ∷ is) (same_code_all rest (past p value + 1) nest after))
same_code_all (Obey d rest) p nest after = ap (λ is. code.Do d ∷ is) (same_code_all rest (p + 1) nest after)
same_code_all (When condition block rest) p nest after =
    let then_at = past p condition + 1 in
    let end_at = past_all then_at block in
    code_joins (code_of p condition) _ (instructions after) (same_code condition p [] nest _)
    (ap (λ is. code.JumpFalse end_at ∷ is)
    (code_joins (code_of_all then_at block) _ (instructions after) (same_code_all block then_at nest _)
    (same_code_all rest end_at nest after)))
same_code_all (If condition block other rest) p nest after =
    let then_at = past p condition + 1 in
    let else_at = past_all then_at block + 1 in
    let end_at = past_all else_at other in
    code_joins (code_of p condition) _ (instructions after) (same_code condition p [] nest _)
    (ap (λ is. code.JumpFalse else_at ∷ is)
    (code_joins (code_of_all then_at block) _ (instructions after) (same_code_all block then_at nest _)
    (ap (λ is. code.Jump end_at ∷ is)
    (code_joins (code_of_all else_at other) _ (instructions after) (same_code_all other else_at nest _)
    (same_code_all rest end_at nest after)))))
same_code_all (For s block rest) p nest after =
    let next = past_all (p + 1) block in
    ap (λ is. code.Loop s (next + 1) ∷ is)
    (code_joins (code_of_all (p + 1) block) _ (instructions after) (same_code_all block (p + 1) (body_at p block ∷ nest) _)
    (ap (λ is. code.Next (p + 1) ∷ is) (same_code_all rest (next + 1) nest after)))
