-- Programs that grow at their end: what an instruction more makes of them, and a jump whose aim is filled in.
use Rattle.std.proofs.Common.{◌≡◌, ℕ, ◌+◌, ◌≤◌, ◌<◌, List, [], ◌∷◌, ◌++◌, length, refl, sym, ap, ◌∙◌, append_assoc, append-nil}
use Rattle.std.proofs.Common.{length-append, length-set, arith}
use Rattle.std.specs.Prelude.{slice_set}
use Rattle.dv_code.specs.declared.instruction.Action.{Action}
use Rattle.dv_code.specs.declared.instruction.Binary.{Binary}
use Rattle.dv_code.specs.declared.instruction.Deed.{Deed}
use Rattle.dv_code.specs.declared.instruction.Instruction.{Instruction}
use Rattle.dv_code.specs.declared.instruction.Instruction.TheVariants.{Push, Apply, Combine, Perform, Do, Jump, JumpFalse}
use Rattle.dv_code.specs.declared.instruction.Instruction.TheVariants.{FalseKeep, TrueKeep, Loop, Next}
use Rattle.dv_code.specs.declared.instruction.Leaf.{Leaf}
use Rattle.dv_code.specs.declared.instruction.Source.{Source}
use Rattle.dv_code.specs.declared.instruction.Unary.{Unary}
use Rattle.dv_gen.specs.Resolved.{Expression, Read, Prefix, Infix, And, Or, Statements, Done, Act, Obey, When, If, For}
use Rattle.dv_gen.specs.Generator.{code_of, code_of_all, past, past_all}
use Rattle.dv_gen.specs.Emission.{with_branch, with_expression, with_statements}

-- ---- Where code ends

pub length-code_of : (e : Expression) (p : ℕ) → p + length (code_of p e) ≡ past p e
length-code_of (Read l) p = refl
length-code_of (Prefix u a) p = omega (arith, length-append (code_of p a) (Apply u ∷ []), length-code_of a p)
length-code_of (Infix o a b) p =
    omega (
      arith,
      length-append (code_of p a) (code_of (past p a) b ++ Combine o ∷ []),
      length-append (code_of (past p a) b) (Combine o ∷ []),
      length-code_of a p,
      length-code_of b (past p a),
    )
length-code_of (And a b) p =
    let over = code_of (past p a + 1) b in
    omega (
      arith,
      length-append (code_of p a) (FalseKeep (past (past p a + 1) b) ∷ over),
      length-code_of a p,
      length-code_of b (past p a + 1),
    )
length-code_of (Or a b) p =
    let over = code_of (past p a + 1) b in
    omega (
      arith,
      length-append (code_of p a) (TrueKeep (past (past p a + 1) b) ∷ over),
      length-code_of a p,
      length-code_of b (past p a + 1),
    )

pub length-code_of_all : (body : Statements) (p : ℕ) → p + length (code_of_all p body) ≡ past_all p body
length-code_of_all Done p = omega arith
length-code_of_all (Act a value rest) p =
    omega (
      arith,
      length-append (code_of p value) (Perform a ∷ code_of_all (past p value + 1) rest),
      length-code_of value p,
      length-code_of_all rest (past p value + 1),
    )
length-code_of_all (Obey d rest) p = omega (arith, length-code_of_all rest (p + 1))
length-code_of_all (When condition block rest) p =
    let at = past p condition + 1 in
    let after = past_all at block in
    omega (
      arith,
      length-append (code_of p condition) (JumpFalse after ∷ (code_of_all at block ++ code_of_all after rest)),
      length-append (code_of_all at block) (code_of_all after rest),
      length-code_of condition p,
      length-code_of_all block at,
      length-code_of_all rest after,
    )
length-code_of_all (If condition block other rest) p =
    let at = past p condition + 1 in
    let else_at = past_all at block + 1 in
    let after = past_all else_at other in
    let tail = code_of_all else_at other ++ code_of_all after rest in
    omega (
      arith,
      length-append (code_of p condition) (JumpFalse else_at ∷ (code_of_all at block ++ Jump after ∷ tail)),
      length-append (code_of_all at block) (Jump after ∷ tail),
      length-append (code_of_all else_at other) (code_of_all after rest),
      length-code_of condition p,
      length-code_of_all block at,
      length-code_of_all other else_at,
      length-code_of_all rest after,
    )
length-code_of_all (For s block rest) p =
    let next = past_all (p + 1) block in
    omega (
      arith,
      length-append (code_of_all (p + 1) block) (Next (p + 1) ∷ code_of_all (next + 1) rest),
      length-code_of_all block (p + 1),
      length-code_of_all rest (next + 1),
    )

pub length-with_expression : (code : List Instruction) (e : Expression) → length (with_expression code e) ≡ past (length code) e
unfolding with_expression
length-with_expression code e = omega (arith, length-append code (code_of (length code) e), length-code_of e (length code))

pub length-with_statements : (code : List Instruction) (body : Statements)
    → length (with_statements code body) ≡ past_all (length code) body
unfolding with_statements
length-with_statements code body = omega (arith, length-append code (code_of_all (length code) body), length-code_of_all body (length code))

-- a program that grows keeps its addresses
pub with_expression-longer : (code : List Instruction) (e : Expression) → length code ≤ length (with_expression code e)
unfolding with_expression
with_expression-longer code e = omega (arith, length-append code (code_of (length code) e))

pub with_statements-longer : (code : List Instruction) (body : Statements) → length code ≤ length (with_statements code body)
unfolding with_statements
with_statements-longer code body = omega (arith, length-append code (code_of_all (length code) body))

-- ---- Jumps

-- another element in the place of one that stands between others
slice_set-between : {A : Type 0} (before after : List A) (i j : A) → slice_set (before ++ i ∷ after) (length before) j ≡ before ++ j ∷ after
slice_set-between [] after i j = refl
slice_set-between (x ∷ before) after i j = ap (λ xs. x ∷ xs) (slice_set-between before after i j)

one_more : (code : List Instruction) (i : Instruction) → length (code ++ i ∷ []) ≡ length code + 1
one_more code i = length-append code (i ∷ [])

-- a jump over what is put behind it
jump_over : (jump : ℕ → Instruction) (code : List Instruction) (i : Instruction) (put : List Instruction → List Instruction)
    (written : ℕ → List Instruction) (end : ℕ → ℕ) → ((c : List Instruction) → put c ≡ c ++ written (length c))
    → ((c : List Instruction) → length (put c) ≡ end (length c))
    → slice_set (put (code ++ i ∷ [])) (length code) (jump (length (put (code ++ i ∷ []))))
    ≡ code ++ jump (end (length code + 1)) ∷ written (length code + 1)
jump_over jump code i put written end is long =
    let opened = code ++ i ∷ [] in
    let whole =
    is opened ∙ ap (λ p. opened ++ written p) (one_more code i) ∙ append_assoc code (i ∷ []) (written (length code + 1)) in
    ap (λ p. slice_set (put opened) (length code) (jump p)) (long opened ∙ ap end (one_more code i))
    ∙ ap (λ xs. slice_set xs (length code) (jump (end (length code + 1)))) whole
    ∙ slice_set-between code (written (length code + 1)) i (jump (end (length code + 1)))

jump_over_expression : (jump : ℕ → Instruction) (code : List Instruction) (i : Instruction) (b : Expression)
    → slice_set (with_expression (code ++ i ∷ []) b) (length code) (jump (length (with_expression (code ++ i ∷ []) b)))
    ≡ code ++ jump (past (length code + 1) b) ∷ code_of (length code + 1) b
unfolding with_expression
jump_over_expression jump code i b =
    jump_over jump code i (λ c. with_expression c b) (λ p. code_of p b) (λ p. past p b) (λ c. refl) (λ c. length-with_expression c b)

-- ---- Expressions

pub with_expression-Read : (code : List Instruction) (l : Leaf) → with_expression code (Read l) ≡ code ++ Push l ∷ []
unfolding with_expression
with_expression-Read code l = refl

pub with_expression-Prefix : (code : List Instruction) (u : Unary) (a : Expression)
    → with_expression code (Prefix u a) ≡ with_expression code a ++ Apply u ∷ []
unfolding with_expression
with_expression-Prefix code u a = sym (append_assoc code (code_of (length code) a) (Apply u ∷ []))

pub with_expression-Infix : (code : List Instruction) (o : Binary) (a b : Expression)
    → with_expression code (Infix o a b) ≡ with_expression (with_expression code a) b ++ Combine o ∷ []
unfolding with_expression
with_expression-Infix code o a b =
    let first = code_of (length code) a in
    let second = code_of (past (length code) a) b in
    sym (ap (λ p. ((code ++ first) ++ code_of p b) ++ Combine o ∷ []) (length-with_expression code a)
    ∙ append_assoc (code ++ first) second (Combine o ∷ [])
    ∙ append_assoc code first (second ++ Combine o ∷ []))

-- the address of a jump stands in the program that grew past it
pub jump_within : (operand opened over : List Instruction) (address : ℕ) (b : Expression) → address ≡ length operand
    → (i : Instruction) → opened ≡ operand ++ i ∷ [] → over ≡ with_expression opened b → address < length over
jump_within operand opened over address b at i begun second =
    omega (arith, at, ap length begun, one_more operand i, ap length second, with_expression-longer opened b)

module _ (code operand opened over whole : List Instruction) (address aim unknown : ℕ) (a b : Expression)
    (first : operand ≡ with_expression code a) (at : address ≡ length operand) where
  with_expression-jump : (jump : ℕ → Instruction) → opened ≡ operand ++ jump unknown ∷ [] → over ≡ with_expression opened b
      → aim ≡ length over
      → whole ≡ slice_set over address (jump aim)
      → whole ≡ code ++ (code_of (length code) a ++ jump (past (past (length code) a + 1) b) ∷ code_of (past (length code) a + 1) b)
  unfolding with_expression
  with_expression-jump jump begun second to filled =
      let inside : over ≡ with_expression (operand ++ jump unknown ∷ []) b = second ∙ ap (λ c. with_expression c b) begun in
      filled
      ∙ ap (λ p. slice_set over p (jump aim)) at
      ∙ ap (λ p. slice_set over (length operand) (jump p)) to
      ∙ ap (λ c. slice_set c (length operand) (jump (length c))) inside
      ∙ jump_over_expression jump operand (jump unknown) b
      ∙ ap (λ p. operand ++ jump (past (p + 1) b) ∷ code_of (p + 1) b) (ap length first ∙ length-with_expression code a)
      ∙ ap (λ c. c ++ jump (past (past (length code) a + 1) b) ∷ code_of (past (length code) a + 1) b) first
      ∙ append_assoc code (code_of (length code) a) (jump (past (past (length code) a + 1) b) ∷ code_of (past (length code) a + 1) b)

  pub with_expression-And : opened ≡ operand ++ FalseKeep unknown ∷ [] → over ≡ with_expression opened b → aim ≡ length over
      → whole ≡ slice_set over address (FalseKeep aim) → whole ≡ with_expression code (And a b)
  unfolding with_expression
  with_expression-And = with_expression-jump FalseKeep

  pub with_expression-Or : opened ≡ operand ++ TrueKeep unknown ∷ [] → over ≡ with_expression opened b → aim ≡ length over
      → whole ≡ slice_set over address (TrueKeep aim) → whole ≡ with_expression code (Or a b)
  unfolding with_expression
  with_expression-Or = with_expression-jump TrueKeep

-- ---- Statements

pub with_statements-Done : (code : List Instruction) → with_statements code Done ≡ code
unfolding with_statements
with_statements-Done code = append-nil code

pub with_statements-Obey : (code : List Instruction) (d : Deed) (rest : Statements)
    → with_statements (code ++ Do d ∷ []) rest ≡ with_statements code (Obey d rest)
unfolding with_statements
with_statements-Obey code d rest =
    ap (λ p. (code ++ Do d ∷ []) ++ code_of_all p rest) (one_more code (Do d))
    ∙ append_assoc code (Do d ∷ []) (code_of_all (length code + 1) rest)

pub with_statements-Act : (code : List Instruction) (a : Action) (value : Expression) (rest : Statements)
    → with_statements (with_expression code value ++ Perform a ∷ []) rest ≡ with_statements code (Act a value rest)
unfolding with_expression with_statements
with_statements-Act code a value rest =
    let written = code_of (length code) value in
    let after = past (length code) value + 1 in
    ap (λ p. ((code ++ written) ++ Perform a ∷ []) ++ code_of_all p rest) (one_more (code ++ written) (Perform a)
    ∙ ap (λ p. p + 1) (length-with_expression code value))
    ∙ append_assoc (code ++ written) (Perform a ∷ []) (code_of_all after rest)
    ∙ append_assoc code written (Perform a ∷ code_of_all after rest)

jump_over_block : (jump : ℕ → Instruction) (code : List Instruction) (i : Instruction) (block : Statements)
    → slice_set (with_statements (code ++ i ∷ []) block) (length code) (jump (length (with_statements (code ++ i ∷ []) block)))
    ≡ code ++ jump (past_all (length code + 1) block) ∷ code_of_all (length code + 1) block
unfolding with_statements
jump_over_block jump code i block =
    jump_over jump code i (λ c. with_statements c block) (λ p. code_of_all p block) (λ p. past_all p block) (λ c. refl)
    (λ c. length-with_statements c block)

-- a jump over a block, whose address was kept
jump_kept : (jump : ℕ → Instruction) (code begun inside whole : List Instruction) (address aim unknown : ℕ) (block : Statements)
    → address ≡ length code → begun ≡ code ++ jump unknown ∷ [] → inside ≡ with_statements begun block → aim ≡ length inside
    → whole ≡ slice_set inside address (jump aim)
    → whole ≡ code ++ jump (past_all (length code + 1) block) ∷ code_of_all (length code + 1) block
jump_kept jump code begun inside whole address aim unknown block at opened body to filled =
    filled
    ∙ ap (λ p. slice_set inside p (jump aim)) at
    ∙ ap (λ p. slice_set inside (length code) (jump p)) to
    ∙ ap (λ xs. slice_set xs (length code) (jump (length xs))) (body ∙ ap (λ xs. with_statements xs block) opened)
    ∙ jump_over_block jump code (jump unknown) block

-- a jump over a block and one instruction more, whose address was kept
jump_kept_past : (jump : ℕ → Instruction) (code begun inside ended whole : List Instruction) (address aim unknown : ℕ) (last : Instruction)
    (block : Statements) → address ≡ length code → begun ≡ code ++ jump unknown ∷ [] → inside ≡ with_statements begun block
    → ended ≡ inside ++ last ∷ [] → aim ≡ length ended → whole ≡ slice_set ended address (jump aim)
    → whole ≡ code ++ jump (past_all (length code + 1) block + 1) ∷ (code_of_all (length code + 1) block ++ last ∷ [])
unfolding with_statements
jump_kept_past jump code begun inside ended whole address aim unknown last block at opened body more to filled =
    let written = code_of_all (length code + 1) block in
    let end = past_all (length code + 1) block in
    let start : length begun ≡ length code + 1 = ap length opened ∙ one_more code (jump unknown) in
    let spread : ended ≡ code ++ jump unknown ∷ (written ++ last ∷ []) =
    more
    ∙ ap (λ xs. xs ++ last ∷ []) body
    ∙ ap (λ p. (begun ++ code_of_all p block) ++ last ∷ []) start
    ∙ ap (λ xs. (xs ++ written) ++ last ∷ []) opened
    ∙ ap (λ xs. xs ++ last ∷ []) (append_assoc code (jump unknown ∷ []) written)
    ∙ append_assoc code (jump unknown ∷ written) (last ∷ []) in
    let there : aim ≡ end + 1 =
    to
    ∙ (ap length more ∙ one_more inside last)
    ∙ ap (λ p. p + 1) (ap length body ∙ length-with_statements begun block ∙ ap (λ p. past_all p block) start) in
    filled
    ∙ ap (λ p. slice_set ended p (jump aim)) at
    ∙ ap (λ p. slice_set ended (length code) (jump p)) there
    ∙ ap (λ xs. slice_set xs (length code) (jump (end + 1))) spread
    ∙ slice_set-between code (written ++ last ∷ []) (jump unknown) (jump (end + 1))

regrouped : {A : Type 0} (code test block rest : List A) (x : A)
    → ((code ++ test) ++ x ∷ block) ++ rest ≡ code ++ (test ++ x ∷ (block ++ rest))
regrouped code test block rest x = simp append_assoc

-- the address of a jump stands in the program that grew past it by a block
pub jump_within_block : (code begun inside : List Instruction) (address : ℕ) (block : Statements) → address ≡ length code
    → (i : Instruction) → begun ≡ code ++ i ∷ [] → inside ≡ with_statements begun block → address < length inside
jump_within_block code begun inside address block at i opened body =
    omega (arith, at, ap length opened, one_more code i, ap length body, with_statements-longer begun block)

-- an address that stands in a program stands in it when it has grown
pub still_within : (code inside : List Instruction) (address : ℕ) (block : Statements) → address < length code
    → inside ≡ with_statements code block
    → address < length inside
still_within code inside address block within body = omega (arith, within, ap length body, with_statements-longer code block)

-- and by one instruction more
pub jump_within_more : (inside ended : List Instruction) (address : ℕ) (last : Instruction) → address < length inside
    → ended ≡ inside ++ last ∷ []
    → address < length ended
jump_within_more inside ended address last within more = omega (arith, within, ap length more, one_more inside last)

pub with_statements-When : (code tested begun inside whole : List Instruction) (address aim unknown : ℕ) (e : Expression) (block : Statements)
    → tested ≡ with_expression code e → address ≡ length tested → begun ≡ tested ++ JumpFalse unknown ∷ []
    → inside ≡ with_statements begun block → aim ≡ length inside → whole ≡ slice_set inside address (JumpFalse aim)
    → (rest : Statements) → with_statements whole rest ≡ with_statements code (When e block rest)
unfolding with_expression with_statements
with_statements-When code tested begun inside whole address aim unknown e block test at opened body to filled rest =
    let start = past (length code) e in
    let written = code_of_all (start + 1) block in
    let after = past_all (start + 1) block in
    let head = code ++ code_of (length code) e in
    let until : length tested ≡ start = ap length test ∙ length-with_expression code e in
    let is : whole ≡ head ++ JumpFalse after ∷ written =
    jump_kept JumpFalse tested begun inside whole address aim unknown block at opened body to filled
    ∙ ap (λ p. tested ++ JumpFalse (past_all (p + 1) block) ∷ code_of_all (p + 1) block) until
    ∙ ap (λ xs. xs ++ JumpFalse after ∷ written) test in
    let end : length (head ++ JumpFalse after ∷ written) ≡ after =
    omega (arith, length-append head (JumpFalse after ∷ written), length-with_expression code e, length-code_of_all block (start + 1)) in
    ap (λ xs. xs ++ code_of_all (length xs) rest) is
    ∙ ap (λ p. (head ++ JumpFalse after ∷ written) ++ code_of_all p rest) end
    ∙ regrouped code (code_of (length code) e) written (code_of_all after rest) (JumpFalse after)

pub with_statements-For : (code begun inside ended whole : List Instruction) (address first aim unknown : ℕ) (s : Source) (block : Statements)
    → address ≡ length code → begun ≡ code ++ Loop s unknown ∷ [] → first ≡ length begun → inside ≡ with_statements begun block
    → ended ≡ inside ++ Next first ∷ [] → aim ≡ length ended → whole ≡ slice_set ended address (Loop s aim)
    → (rest : Statements) → with_statements whole rest ≡ with_statements code (For s block rest)
unfolding with_statements
with_statements-For code begun inside ended whole address first aim unknown s block at opened begins body more to filled rest =
    let start = length code + 1 in
    let written = code_of_all start block in
    let next = past_all start block in
    let loop = Loop s (next + 1) in
    let open_at : first ≡ start = begins ∙ ap length opened ∙ one_more code (Loop s unknown) in
    let is : whole ≡ code ++ loop ∷ (written ++ Next start ∷ []) =
    jump_kept_past (Loop s) code begun inside ended whole address aim unknown (Next first) block at opened body more to filled
    ∙ ap (λ p. code ++ loop ∷ (written ++ Next p ∷ [])) open_at in
    let end : length (code ++ loop ∷ (written ++ Next start ∷ [])) ≡ next + 1 =
    omega (
      arith,
      length-append code (loop ∷ (written ++ Next start ∷ [])),
      length-append written (Next start ∷ []),
      length-code_of_all block start,
    ) in
    ap (λ xs. xs ++ code_of_all (length xs) rest) is
    ∙ ap (λ p. (code ++ loop ∷ (written ++ Next start ∷ [])) ++ code_of_all p rest) end
    ∙ append_assoc code (loop ∷ (written ++ Next start ∷ [])) (code_of_all (next + 1) rest)
    ∙ ap (λ xs. code ++ loop ∷ xs) (append_assoc written (Next start ∷ []) (code_of_all (next + 1) rest))

regrouped_twice : {A : Type 0} (code test block other rest : List A) (x y : A)
    → (((code ++ test) ++ x ∷ block) ++ y ∷ other) ++ rest ≡ code ++ (test ++ x ∷ (block ++ y ∷ (other ++ rest)))
regrouped_twice code test block other rest x y = simp append_assoc

with_statements-both : (code tested begun inside ended opened beside whole : List Instruction) (test jump aim out unknown : ℕ)
    (e : Expression) (block other : Statements)
    → tested ≡ with_expression code e → test ≡ length tested → begun ≡ tested ++ JumpFalse unknown ∷ []
    → inside ≡ with_statements begun block → jump ≡ length inside → (skip : ℕ) → ended ≡ inside ++ Jump skip ∷ [] → aim ≡ length ended
    → opened ≡ slice_set ended test (JumpFalse aim) → beside ≡ with_statements opened other → out ≡ length beside
    → whole ≡ slice_set beside jump (Jump out)
    → (rest : Statements) → with_statements whole rest ≡ with_statements code (If e block other rest)
unfolding with_expression with_statements
with_statements-both code tested begun inside ended opened beside whole test jump aim out unknown e block other condition at start body
    behind skip more to filled second last whole_is rest =
    let from = past (length code) e in
    let written = code_of_all (from + 1) block in
    let end = past_all (from + 1) block in
    let else_at = end + 1 in
    let tail = code_of_all else_at other in
    let after = past_all else_at other in
    let head = code ++ code_of (length code) e in
    let until : length tested ≡ from = ap length condition ∙ length-with_expression code e in
    let front = head ++ JumpFalse else_at ∷ written in
    let size : length front ≡ end =
    omega (arith, length-append head (JumpFalse else_at ∷ written), length-with_expression code e, length-code_of_all block (from + 1)) in
    let is : opened ≡ front ++ Jump skip ∷ [] =
    jump_kept_past JumpFalse tested begun inside ended opened test aim unknown (Jump skip) block at start body more to filled
    ∙ ap (λ p. tested ++ JumpFalse (past_all (p + 1) block + 1) ∷ (code_of_all (p + 1) block ++ Jump skip ∷ [])) until
    ∙ ap (λ xs. xs ++ JumpFalse else_at ∷ (written ++ Jump skip ∷ [])) condition
    ∙ sym (append_assoc head (JumpFalse else_at ∷ written) (Jump skip ∷ [])) in
    let before : jump ≡ length front =
    behind
    ∙ ap length body ∙ length-with_statements begun block
    ∙ ap (λ p. past_all p block) (ap length start ∙ one_more tested (JumpFalse unknown) ∙ ap (λ p. p + 1) until)
    ∙ sym size in
    let done : whole ≡ front ++ Jump after ∷ tail =
    jump_kept Jump front opened beside whole jump out skip other before is second last whole_is
    ∙ ap (λ p. front ++ Jump (past_all (p + 1) other) ∷ code_of_all (p + 1) other) size in
    let length_of : length (front ++ Jump after ∷ tail) ≡ after =
    omega (arith, length-append front (Jump after ∷ tail), size, length-code_of_all other else_at) in
    ap (λ xs. xs ++ code_of_all (length xs) rest) done
    ∙ ap (λ p. (front ++ Jump after ∷ tail) ++ code_of_all p rest) length_of
    ∙ regrouped_twice code (code_of (length code) e) written tail (code_of_all after rest) (JumpFalse else_at) (Jump after)

pub with_branch-is : (code beside whole : List Instruction) (jump out : ℕ) (body : Statements) → beside ≡ with_statements code body
    → out ≡ length beside → whole ≡ slice_set beside jump (Jump out) → whole ≡ with_branch code jump body
unfolding with_branch
with_branch-is code beside whole jump out body written at filled =
    filled ∙ ap (λ p. slice_set beside jump (Jump p)) at ∙ ap (λ xs. slice_set xs jump (Jump (length xs))) written

pub with_statements-If : (code tested begun inside ended opened : List Instruction) (test jump aim unknown skip : ℕ)
    (e : Expression) (block : Statements)
    → tested ≡ with_expression code e → test ≡ length tested → begun ≡ tested ++ JumpFalse unknown ∷ []
    → inside ≡ with_statements begun block → jump ≡ length inside → ended ≡ inside ++ Jump skip ∷ [] → aim ≡ length ended
    → opened ≡ slice_set ended test (JumpFalse aim)
    → (other rest : Statements) → with_statements (with_branch opened jump other) rest ≡ with_statements code (If e block other rest)
unfolding with_branch
with_statements-If code tested begun inside ended opened test jump aim unknown skip e block condition at start body behind more to filled
    other rest =
    let beside = with_statements opened other in
    with_statements-both code tested begun inside ended opened beside (with_branch opened jump other) test jump aim (length beside)
    unknown e block other
    condition at start body behind skip more to filled refl refl refl rest

-- a jump behind a block stands in the program, also where an instruction before it is another one now
pub jump_behind_within : (inside ended whole : List Instruction) (jump address : ℕ) (i j : Instruction) → jump ≡ length inside
    → ended ≡ inside ++ i ∷ [] → whole ≡ slice_set ended address j → jump < length whole
jump_behind_within inside ended whole jump address i j at more filled =
    let size = ap length filled ∙ length-set ended address j in
    omega (arith, at, size, ap length more, one_more inside i)
