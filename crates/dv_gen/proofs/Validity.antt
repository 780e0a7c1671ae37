-- Programs of well-typed trees are valid.
use Rattle.std.proofs.Common.{◌≡◌, ℕ, zero, suc, ◌+◌, ◌≤◌, List, [], ◌∷◌, length, Option, Some, None, refl, sym, ap, subst, ◌∙◌, arith}
use Rattle.std.specs.Prelude.{slice_get}
use Rattle.std.proofs.lemmas.Option.{slice_get_within, same_Some}
use Rattle.std.proofs.lemmas.List.{length-map}
use Rattle.dv_bag.specs.declared.value.ValueType.{ValueType}
use Rattle.dv_code.specs.Shape.{Shape}
use Rattle.dv_code.specs.Known.{operand_type}
use Rattle.dv_code.specs.Valid.{Agrees, Arrives, Body, IsFine, IsValid, LiesIn, Mark, mark}
use Rattle.dv_code.specs.declared.instruction.Instruction.{Instruction}
use Rattle.dv_gen.specs.Resolved.{Expression, Read, Prefix, Infix, And, Or, Statements, Done, Act, Obey, When, If, For, AreTyped}
use Rattle.dv_gen.specs.Resolved.{IsTyped, type_of}
use Rattle.dv_gen.specs.Generator.{past, past_all}
use Rattle.dv_gen.proofs.Marks.{MarkedInstruction, body_at, instruction_at, instructions, marked_code_of, marked_code_of_all}
use Rattle.dv_gen.proofs.Indices.{HasCode, HasCodeOfAll, IsAt, hold_program_stands, marked_hold_program_of, marked_program_of}
use Rattle.dv_gen.proofs.Indices.{past_all_no_earlier, past_later, program_stands}

-- what lies between two addresses of the same bodies lies in them
lies_between : (end : ℕ) (nest : List Body) (p k q : ℕ) → LiesIn end p nest → LiesIn end q nest → p ≤ k → k ≤ q → LiesIn end k nest
lies_between end [] p k q a b le me = omega (arith, b, me)
lies_between end (x ∷ nest) p k q a b le me = (omega (arith, a.0, le), omega (arith, b.1, me), a.2)

abbrev mark_in : Option MarkedInstruction → Mark
mark_in None = mark [] []
mark_in (Some i) = i.mark

module _ (shape : Shape) (left : List ValueType) (depth : ℕ) (program : List MarkedInstruction) where
  abbrev end : ℕ
  end = length (instructions program)

  abbrev marks : ℕ → Mark
  marks p = mark_in (slice_get program p)

  same_end : end ≡ length program
  same_end = length-map program (λ (i : MarkedInstruction). i.instruction)

  -- an instruction with its mark is fine at an address
  abbrev IsFineAt : ℕ → MarkedInstruction → Type 0
  IsFineAt p i =
      LiesIn end p i.mark.nest × (length i.mark.nest ≤ depth)
      × Agrees shape left end marks p i.mark.types i.mark.nest i.instruction

  -- from an address on each of these is
  abbrev AreFineFrom : ℕ → List MarkedInstruction → Type 0
  AreFineFrom p [] = Unit {0}
  AreFineFrom p (i ∷ rest) = IsFineAt p i × AreFineFrom (p + 1) rest

  arrives : (p : ℕ) (i : Instruction) (types : List ValueType) (nest : List Body) → IsAt program p i types nest
      → Arrives end marks p types nest
  arrives p i types nest h = (let within = slice_get_within program p _ h in omega (arith, within, same_end), ap mark_in h)

  -- where code begins stands its first mark
  code_begins : (e : Expression) (p : ℕ) (types : List ValueType) (nest : List Body) → HasCode program p types nest e
      → Arrives end marks p types nest
  code_begins (Read l) p types nest h = arrives p _ types nest h
  code_begins (Prefix u a) p types nest h = code_begins a p types nest h.0
  code_begins (Infix o a b) p types nest h = code_begins a p types nest h.0
  code_begins (And a b) p types nest h = code_begins a p types nest h.0
  code_begins (Or a b) p types nest h = code_begins a p types nest h.0

  code_of_all_begins : (block : Statements) (p : ℕ) (nest : List Body) → HasCodeOfAll program p nest block
      → Arrives end marks (past_all p block) [] nest → Arrives end marks p [] nest
  code_of_all_begins Done p nest h after = after
  code_of_all_begins (Act a value rest) p nest h after = code_begins value p [] nest h.0
  code_of_all_begins (Obey d rest) p nest h after = arrives p _ [] nest h.0
  code_of_all_begins (When condition block rest) p nest h after = code_begins condition p [] nest h.0
  code_of_all_begins (If condition block other rest) p nest h after = code_begins condition p [] nest h.0
  code_of_all_begins (For s block rest) p nest h after = arrives p _ [] nest h.0

  -- the code of a well-typed expression agrees with its marks, where what comes after it does
  code_agrees : (e : Expression) (p : ℕ) (types : List ValueType) (nest : List Body) (rest : List MarkedInstruction)
      → HasCode program p types nest e → IsTyped shape (length nest) e → length nest ≤ depth
      → LiesIn end p nest → LiesIn end (past p e) nest → Arrives end marks (past p e) (type_of e ∷ types) nest
      → AreFineFrom (past p e) rest → AreFineFrom p (marked_code_of p types nest e rest)
  code_agrees (Read l) p types nest rest h typed deep from to after later = ((from, deep, (typed, after)), later)
  code_agrees (Prefix u a) p types nest rest h typed deep from to after later =
      let q = past p a in
      let x = past_later a p in
      let at_q = lies_between end nest p q (q + 1) from to (omega (arith, x)) (omega arith) in
      code_agrees a p types nest _ h.0 typed.2 deep from at_q (arrives q _ _ nest h.1)
      ((at_q, deep, (types, ap (λ t. t ∷ types) typed.1, typed.0, after)), later)
  code_agrees (Infix o a b) p types nest rest h typed deep from to after later =
      let q = past p a in
      let r = past q b in
      let x = past_later a p in
      let y = past_later b q in
      let at_q = lies_between end nest p q (r + 1) from to (omega (arith, x)) (omega (arith, y)) in
      let at_r = lies_between end nest p r (r + 1) from to (omega (arith, x, y)) (omega arith) in
      let operands = ap (λ t. t ∷ type_of a ∷ types) typed.1 ∙ ap (λ t. operand_type o ∷ t ∷ types) typed.0 in
      code_agrees a p types nest _ h.0 typed.2 deep from at_q (code_begins b q (type_of a ∷ types) nest h.1)
      (code_agrees b q (type_of a ∷ types) nest _ h.1 typed.3 deep at_q at_r (arrives r _ _ nest h.2)
      ((at_r, deep, (types, operands, after)), later))
  code_agrees (And a b) p types nest rest h typed deep from to after later =
      let q = past p a in
      let r = past (q + 1) b in
      let x = past_later a p in
      let y = past_later b (q + 1) in
      let at_q = lies_between end nest p q r from to (omega (arith, x)) (omega (arith, y)) in
      let at_next = lies_between end nest p (q + 1) r from to (omega (arith, x)) (omega (arith, y)) in
      let second = subst (λ t. Arrives end marks r (t ∷ types) nest) (sym typed.1) after in
      let next = code_begins b (q + 1) types nest h.2 in
      code_agrees a p types nest _ h.0 typed.2 deep from at_q (arrives q _ _ nest h.1) (
        (at_q, deep, (types, ap (λ t. t ∷ types) typed.0, omega (arith, y), next, after)),
        code_agrees b (q + 1) types nest rest h.2 typed.3 deep at_next to second later,
      )
  code_agrees (Or a b) p types nest rest h typed deep from to after later =
      let q = past p a in
      let r = past (q + 1) b in
      let x = past_later a p in
      let y = past_later b (q + 1) in
      let at_q = lies_between end nest p q r from to (omega (arith, x)) (omega (arith, y)) in
      let at_next = lies_between end nest p (q + 1) r from to (omega (arith, x)) (omega (arith, y)) in
      let second = subst (λ t. Arrives end marks r (t ∷ types) nest) (sym typed.1) after in
      let next = code_begins b (q + 1) types nest h.2 in
      code_agrees a p types nest _ h.0 typed.2 deep from at_q (arrives q _ _ nest h.1) (
        (at_q, deep, (types, ap (λ t. t ∷ types) typed.0, omega (arith, y), next, after)),
        code_agrees b (q + 1) types nest rest h.2 typed.3 deep at_next to second later,
      )

  -- so does that of well-typed statements
  code_of_all_agrees : (block : Statements) (p : ℕ) (nest : List Body) (rest : List MarkedInstruction)
      → HasCodeOfAll program p nest block → AreTyped shape depth (length nest) block → length nest ≤ depth
      → LiesIn end p nest → LiesIn end (past_all p block) nest → Arrives end marks (past_all p block) [] nest
      → AreFineFrom (past_all p block) rest → AreFineFrom p (marked_code_of_all p nest block rest)
  code_of_all_agrees Done p nest after h typed deep from to arrive later = later
  code_of_all_agrees (Act a value rest) p nest after h typed deep from to arrive later =
      let q = past p value in
      let x = past_later value p in
      let y = past_all_no_earlier rest (q + 1) in
      let at_q = lies_between end nest p q _ from to (omega (arith, x)) (omega (arith, y)) in
      let at_next = lies_between end nest p (q + 1) _ from to (omega (arith, x)) y in
      code_agrees value p [] nest _ h.0 typed.2 deep from at_q (arrives q _ _ nest h.1) (
        (at_q, deep, ([], ap (λ t. t ∷ []) typed.1, typed.0, code_of_all_begins rest (q + 1) nest h.2 arrive)),
        code_of_all_agrees rest (q + 1) nest after h.2 typed.3 deep at_next to arrive later,
      )
  code_of_all_agrees (Obey d rest) p nest after h typed deep from to arrive later =
      let y = past_all_no_earlier rest (p + 1) in
      let at_next = lies_between end nest p (p + 1) _ from to (omega arith) y in (
        (from, deep, (typed.0, code_of_all_begins rest (p + 1) nest h.1 arrive)),
        code_of_all_agrees rest (p + 1) nest after h.1 typed.1 deep at_next to arrive later,
      )
  code_of_all_agrees (When condition block rest) p nest after h typed deep from to arrive later =
      let q = past p condition in
      let r = past_all (q + 1) block in
      let x = past_later condition p in
      let y = past_all_no_earlier block (q + 1) in
      let z = past_all_no_earlier rest r in
      let at_q = lies_between end nest p q _ from to (omega (arith, x)) (omega (arith, y, z)) in
      let at_then = lies_between end nest p (q + 1) _ from to (omega (arith, x)) (omega (arith, y, z)) in
      let at_r = lies_between end nest p r _ from to (omega (arith, x, y)) z in
      let arrive_r = code_of_all_begins rest r nest h.3 arrive in
      let arrive_then = code_of_all_begins block (q + 1) nest h.2 arrive_r in
      code_agrees condition p [] nest _ h.0 typed.1 deep from at_q (arrives q _ _ nest h.1) (
        (at_q, deep, ([], ap (λ t. t ∷ []) typed.0, omega (arith, y), arrive_then, arrive_r)),
        code_of_all_agrees block (q + 1) nest _ h.2 typed.2 deep at_then at_r arrive_r
            (code_of_all_agrees rest r nest after h.3 typed.3 deep at_r to arrive later),
      )
  code_of_all_agrees (If condition block other rest) p nest after h typed deep from to arrive later =
      let q = past p condition in
      let r = past_all (q + 1) block in
      let s = past_all (r + 1) other in
      let x = past_later condition p in
      let y = past_all_no_earlier block (q + 1) in
      let z = past_all_no_earlier other (r + 1) in
      let w = past_all_no_earlier rest s in
      let at_q = lies_between end nest p q _ from to (omega (arith, x)) (omega (arith, y, z, w)) in
      let at_then = lies_between end nest p (q + 1) _ from to (omega (arith, x)) (omega (arith, y, z, w)) in
      let at_r = lies_between end nest p r _ from to (omega (arith, x, y)) (omega (arith, z, w)) in
      let at_else = lies_between end nest p (r + 1) _ from to (omega (arith, x, y)) (omega (arith, z, w)) in
      let at_s = lies_between end nest p s _ from to (omega (arith, x, y, z)) w in
      let arrive_r = arrives r _ [] nest h.3 in
      let arrive_s = code_of_all_begins rest s nest h.5 arrive in
      let arrive_then = code_of_all_begins block (q + 1) nest h.2 arrive_r in
      let arrive_else = code_of_all_begins other (r + 1) nest h.4 arrive_s in
      code_agrees condition p [] nest _ h.0 typed.1 deep from at_q (arrives q _ _ nest h.1) (
        (at_q, deep, ([], ap (λ t. t ∷ []) typed.0, omega (arith, y), arrive_then, arrive_else)),
        code_of_all_agrees block (q + 1) nest _ h.2 typed.2 deep at_then at_r arrive_r (
          (at_r, deep, (omega (arith, z), arrive_s, ap (λ m. m.nest) arrive_else.1)),
          code_of_all_agrees other (r + 1) nest _ h.4 typed.3 deep at_else at_s arrive_s
              (code_of_all_agrees rest s nest after h.5 typed.4 deep at_s to arrive later),
        ),
      )
  code_of_all_agrees (For s block rest) p nest after h typed deep from to arrive later =
      let next = past_all (p + 1) block in
      let b = body_at p block in
      let y = past_all_no_earlier block (p + 1) in
      let z = past_all_no_earlier rest (next + 1) in
      let at_past = lies_between end nest p (next + 1) _ from to (omega (arith, y)) z in
      let at_first : LiesIn end (p + 1) (b ∷ nest) = (omega arith, omega (arith, y), at_past) in
      let at_next : LiesIn end next (b ∷ nest) = (y, omega arith, at_past) in
      let arrive_next = arrives next _ [] (b ∷ nest) h.2 in
      let arrive_first = code_of_all_begins block (p + 1) (b ∷ nest) h.1 arrive_next in
      let arrive_past = code_of_all_begins rest (next + 1) nest h.3 arrive in (
        (from, deep, (refl, typed.1, arrive_first, arrive_past)),
        code_of_all_agrees block (p + 1) (b ∷ nest) _ h.1 typed.2 (omega (arith, typed.0)) at_first at_next arrive_next (
          (at_next, omega (arith, typed.0), (nest, refl, refl, arrive_first, arrive_past)),
          code_of_all_agrees rest (next + 1) nest after h.3 typed.3 deep at_past to arrive later,
        ),
      )

  fine_at : (is : List MarkedInstruction) (p k : ℕ) (i : MarkedInstruction) → AreFineFrom p is → slice_get is k ≡ Some i
      → IsFineAt (p + k) i
  fine_at [] p k i h e = absurd (cc)
  fine_at (j ∷ is) p zero i h e =
      let same : j ≡ i = same_Some j i e in
      let here : p ≡ p + 0 = omega arith in
      subst (λ n. IsFineAt n i) here (subst (λ (x : MarkedInstruction). IsFineAt p x) same h.0)
  fine_at (j ∷ is) p (suc k) i h e =
      let here : p + 1 + k ≡ p + suc k = omega arith in
      subst (λ n. IsFineAt n i) here (fine_at is (p + 1) k i h.1 e)

  each_fine : AreFineFrom 0 program → (k : ℕ) (o : Option MarkedInstruction) → slice_get program k ≡ o
      → (i : Instruction) → slice_get (instructions program) k ≡ Some i → IsFine shape left depth end marks k i
  each_fine h k None e i is = absurd (let none = instruction_at program k None e in cc)
  each_fine h k (Some x) e i is =
      let same : x.instruction ≡ i = same_Some x.instruction i (sym (instruction_at program k (Some x) e) ∙ is) in
      let here : 0 + k ≡ k = omega arith in
      let there : x.mark ≡ marks k = sym (ap mark_in e) in
      let f = subst (λ n. IsFineAt n x) here (fine_at program 0 k x h e) in
      let g = subst (λ (m : Mark). IsFineAt k (record { instruction = x.instruction; mark = m })) there f in
      record { lies = g.0; shallow = g.1; agrees = subst (Agrees shape left end marks k (marks k).types (marks k).nest) same g.2 }

  -- a program is valid under marks with which it agrees
  valid_under_marks : Arrives end marks 0 [] [] → AreFineFrom 0 program → IsValid shape left depth (instructions program)
  valid_under_marks start h =
      record { marks = marks; start = start; each = λ k i is. each_fine h k (slice_get program k) refl i is }

pub rule_valid : (shape : Shape) (depth : ℕ) (body : Statements) → AreTyped shape depth 0 body
    → IsValid shape [] depth (instructions (marked_program_of body))
rule_valid shape depth body typed =
    let program = marked_program_of body in
    let h = program_stands body in
    let last = arrives shape [] depth program (past_all 0 body) _ [] [] h.1.0 in
    let first = code_of_all_begins shape [] depth program body 0 [] h.0 last in
    let at_end : past_all 0 body + 1 ≡ length (instructions program) = omega (arith, same_end shape [] depth program, h.1.1) in
    valid_under_marks shape [] depth program first
    (code_of_all_agrees shape [] depth program body 0 [] _ h.0 typed (omega arith) first.0 last.0 last
    ((last.0, omega arith, (refl, refl, at_end)), tt))

pub hold_valid : (shape : Shape) (e : Expression) → IsTyped shape 0 e
    → IsValid shape (type_of e ∷ []) 0 (instructions (marked_hold_program_of e))
hold_valid shape e typed =
    let program = marked_hold_program_of e in
    let left = type_of e ∷ [] in
    let h = hold_program_stands e in
    let last = arrives shape left 0 program (past 0 e) _ left [] h.1.0 in
    let first = code_begins shape left 0 program e 0 [] [] h.0 in
    let at_end : past 0 e + 1 ≡ length (instructions program) = omega (arith, same_end shape left 0 program, h.1.1) in
    valid_under_marks shape left 0 program first
    (code_agrees shape left 0 program e 0 [] [] _ h.0 typed (omega arith) first.0 last.0 last
    ((last.0, omega arith, (refl, refl, at_end)), tt))
