-- The addresses of generated code: what comes later, and what stands where in a program with its marks.
use Rattle.std.proofs.Common.{◌≡◌, ℕ, ◌+◌, ◌<◌, ◌≤◌, List, [], ◌∷◌, ◌++◌, append-nil, append_assoc, length, length-append, Some}
use Rattle.std.proofs.Common.{sym, ap, subst, ◌∙◌, arith}
use Rattle.std.specs.Prelude.{slice_get}
use Rattle.std.proofs.Math.Seq.{get_or-append_seam}
use Rattle.std.proofs.lemmas.Option.{slice_get-get_or}
use Rattle.dv_bag.specs.declared.value.ValueType.{ValueType}
use Rattle.dv_code.specs.Valid.{Body}
use Rattle.dv_code.specs.declared.instruction.Instruction.{Instruction}
use Rattle.dv_code.specs.declared.instruction.Instruction.TheVariants as code
use Rattle.dv_gen.specs.Resolved.{Expression, Read, Prefix, Infix, And, Or, Statements, Done, Act, Obey, When, If, For, type_of}
use Rattle.dv_gen.specs.Generator.{past, past_all}
use Rattle.dv_gen.proofs.Marks.{MarkedInstruction, body_at, marked_code_of, marked_code_of_all, with_mark}

-- the address past the code of an expression comes later than its first address, and that of statements no earlier
pub past_later : (e : Expression) (p : ℕ) → p < past p e
past_later (Read l) p = omega arith
past_later (Prefix u a) p = let x = past_later a p in omega (arith, x)
past_later (Infix o a b) p = let x = past_later a p in let y = past_later b (past p a) in omega (arith, x, y)
past_later (And a b) p = let x = past_later a p in let y = past_later b (past p a + 1) in omega (arith, x, y)
past_later (Or a b) p = let x = past_later a p in let y = past_later b (past p a + 1) in omega (arith, x, y)

pub past_all_no_earlier : (block : Statements) (p : ℕ) → p ≤ past_all p block
past_all_no_earlier Done p = omega arith
past_all_no_earlier (Act a value rest) p =
    let x = past_later value p in
    let y = past_all_no_earlier rest (past p value + 1) in
    omega (arith, x, y)
past_all_no_earlier (Obey d rest) p = let y = past_all_no_earlier rest (p + 1) in omega (arith, y)
past_all_no_earlier (When condition block rest) p =
    let then_at = past p condition + 1 in
    let x = past_later condition p in
    let y = past_all_no_earlier block then_at in
    let z = past_all_no_earlier rest (past_all then_at block) in
    omega (arith, x, y, z)
past_all_no_earlier (If condition block other rest) p =
    let then_at = past p condition + 1 in
    let else_at = past_all then_at block + 1 in
    let x = past_later condition p in
    let y = past_all_no_earlier block then_at in
    let z = past_all_no_earlier other else_at in
    let w = past_all_no_earlier rest (past_all else_at other) in
    omega (arith, x, y, z, w)
past_all_no_earlier (For s block rest) p =
    let y = past_all_no_earlier block (p + 1) in
    let z = past_all_no_earlier rest (past_all (p + 1) block + 1) in
    omega (arith, y, z)

module _ (program : List MarkedInstruction) where
  -- an instruction with this mark stands at an address
  abbrev pub IsAt : ℕ → Instruction → List ValueType → List Body → Type 0
  IsAt p i types nest = slice_get program p ≡ Some (with_mark i types nest)

  -- these stand from an address to the end of the program
  abbrev pub EndsWith : ℕ → List MarkedInstruction → Type 0
  EndsWith p [] = p ≡ length program
  EndsWith p (i ∷ rest) = (slice_get program p ≡ Some i) × EndsWith (p + 1) rest

  -- the code of an expression stands at an address
  abbrev pub HasCode : ℕ → List ValueType → List Body → Expression → Type 0
  HasCode p types nest (Read l) = IsAt p (code.Push l) types nest
  HasCode p types nest (Prefix u a) = HasCode p types nest a × IsAt (past p a) (code.Apply u) (type_of a ∷ types) nest
  HasCode p types nest (Infix o a b) =
      HasCode p types nest a × HasCode (past p a) (type_of a ∷ types) nest b
      × IsAt (past (past p a) b) (code.Combine o) (type_of b ∷ type_of a ∷ types) nest
  HasCode p types nest (And a b) =
      HasCode p types nest a × IsAt (past p a) (code.FalseKeep (past (past p a + 1) b)) (type_of a ∷ types) nest
      × HasCode (past p a + 1) types nest b
  HasCode p types nest (Or a b) =
      HasCode p types nest a × IsAt (past p a) (code.TrueKeep (past (past p a + 1) b)) (type_of a ∷ types) nest
      × HasCode (past p a + 1) types nest b

  -- the code of statements stands at an address
  abbrev pub HasCodeOfAll : ℕ → List Body → Statements → Type 0
  HasCodeOfAll p nest Done = Unit {0}
  HasCodeOfAll p nest (Act a value rest) =
      HasCode p [] nest value × IsAt (past p value) (code.Perform a) (type_of value ∷ []) nest
      × HasCodeOfAll (past p value + 1) nest rest
  HasCodeOfAll p nest (Obey d rest) = IsAt p (code.Do d) [] nest × HasCodeOfAll (p + 1) nest rest
  HasCodeOfAll p nest (When condition block rest) =
      let then_at = past p condition + 1 in
      let end_at = past_all then_at block in
      HasCode p [] nest condition × IsAt (past p condition) (code.JumpFalse end_at) (type_of condition ∷ []) nest
      × HasCodeOfAll then_at nest block × HasCodeOfAll end_at nest rest
  HasCodeOfAll p nest (If condition block other rest) =
      let then_at = past p condition + 1 in
      let else_at = past_all then_at block + 1 in
      let end_at = past_all else_at other in
      HasCode p [] nest condition × IsAt (past p condition) (code.JumpFalse else_at) (type_of condition ∷ []) nest
      × HasCodeOfAll then_at nest block × IsAt (past_all then_at block) (code.Jump end_at) [] nest
      × HasCodeOfAll else_at nest other × HasCodeOfAll end_at nest rest
  HasCodeOfAll p nest (For s block rest) =
      let next = past_all (p + 1) block in
      IsAt p (code.Loop s (next + 1)) [] nest × HasCodeOfAll (p + 1) (body_at p block ∷ nest) block
      × IsAt next (code.Next (p + 1)) [] (body_at p block ∷ nest) × HasCodeOfAll (next + 1) nest rest

  -- code that ends a program stands where it begins, and the rest behind it
  pub code_stands : (e : Expression) (p : ℕ) (types : List ValueType) (nest : List Body) (rest : List MarkedInstruction)
      → EndsWith p (marked_code_of p types nest e rest) → HasCode p types nest e × EndsWith (past p e) rest
  code_stands (Read l) p types nest rest h = h
  code_stands (Prefix u a) p types nest rest h = let x = code_stands a p types nest _ h in ((x.0, x.1.0), x.1.1)
  code_stands (Infix o a b) p types nest rest h =
      let x = code_stands a p types nest _ h in
      let y = code_stands b (past p a) (type_of a ∷ types) nest _ x.1 in
      ((x.0, y.0, y.1.0), y.1.1)
  code_stands (And a b) p types nest rest h =
      let x = code_stands a p types nest _ h in
      let y = code_stands b (past p a + 1) types nest _ x.1.1 in
      ((x.0, x.1.0, y.0), y.1)
  code_stands (Or a b) p types nest rest h =
      let x = code_stands a p types nest _ h in
      let y = code_stands b (past p a + 1) types nest _ x.1.1 in
      ((x.0, x.1.0, y.0), y.1)

  pub code_of_all_stands : (block : Statements) (p : ℕ) (nest : List Body) (after : List MarkedInstruction)
      → EndsWith p (marked_code_of_all p nest block after) → HasCodeOfAll p nest block × EndsWith (past_all p block) after
  code_of_all_stands Done p nest after h = (tt, h)
  code_of_all_stands (Act a value rest) p nest after h =
      let x = code_stands value p [] nest _ h in
      let y = code_of_all_stands rest (past p value + 1) nest after x.1.1 in
      ((x.0, x.1.0, y.0), y.1)
  code_of_all_stands (Obey d rest) p nest after h =
      let y = code_of_all_stands rest (p + 1) nest after h.1 in
      ((h.0, y.0), y.1)
  code_of_all_stands (When condition block rest) p nest after h =
      let then_at = past p condition + 1 in
      let x = code_stands condition p [] nest _ h in
      let y = code_of_all_stands block then_at nest _ x.1.1 in
      let z = code_of_all_stands rest (past_all then_at block) nest after y.1 in
      ((x.0, x.1.0, y.0, z.0), z.1)
  code_of_all_stands (If condition block other rest) p nest after h =
      let then_at = past p condition + 1 in
      let else_at = past_all then_at block + 1 in
      let x = code_stands condition p [] nest _ h in
      let y = code_of_all_stands block then_at nest _ x.1.1 in
      let z = code_of_all_stands other else_at nest _ y.1.1 in
      let w = code_of_all_stands rest (past_all else_at other) nest after z.1 in
      ((x.0, x.1.0, y.0, y.1.0, z.0, w.0), w.1)
  code_of_all_stands (For s block rest) p nest after h =
      let y = code_of_all_stands block (p + 1) (body_at p block ∷ nest) _ h.1 in
      let z = code_of_all_stands rest (past_all (p + 1) block + 1) nest after y.1.1 in
      ((h.0, y.0, y.1.0, z.0), z.1)

-- a program ends with what stands behind its first instructions
pub ends_with : (rest before : List MarkedInstruction) → EndsWith (before ++ rest) (length before) rest
ends_with [] before = ap length (sym (append-nil before))
ends_with (i ∷ rest) before =
    let within : length before < length (before ++ i ∷ rest) = omega (arith, length-append before (i ∷ rest)) in
    let here = slice_get-get_or (before ++ i ∷ rest) (length before) i within ∙ ap Some (get_or-append_seam before i rest i) in
    let one_more : length (before ++ i ∷ []) ≡ length before + 1 = omega (arith, length-append before (i ∷ [])) in
    let later = subst (λ program. EndsWith program (length (before ++ i ∷ [])) rest) (append_assoc before (i ∷ []) rest)
    (ends_with rest (before ++ i ∷ [])) in
    (here, subst (λ p. EndsWith (before ++ i ∷ rest) p rest) one_more later)

-- the program of a rule with its marks, and that of a hold
abbrev pub marked_program_of : Statements → List MarkedInstruction
marked_program_of body = marked_code_of_all 0 [] body (with_mark code.End [] [] ∷ [])

abbrev pub marked_hold_program_of : Expression → List MarkedInstruction
marked_hold_program_of e = marked_code_of 0 [] [] e (with_mark code.End (type_of e ∷ []) [] ∷ [])

pub program_stands : (body : Statements)
    → HasCodeOfAll (marked_program_of body) 0 [] body
    × EndsWith (marked_program_of body) (past_all 0 body) (with_mark code.End [] [] ∷ [])
program_stands body = code_of_all_stands (marked_program_of body) body 0 [] _ (ends_with (marked_program_of body) [])

pub hold_program_stands : (e : Expression)
    → HasCode (marked_hold_program_of e) 0 [] [] e
    × EndsWith (marked_hold_program_of e) (past 0 e) (with_mark code.End (type_of e ∷ []) [] ∷ [])
hold_program_stands e = code_stands (marked_hold_program_of e) e 0 [] [] _ (ends_with (marked_hold_program_of e) [])
