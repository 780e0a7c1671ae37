-- From trees to programs. The address past the code of a tree is a function of the tree and of the address where it begins.
use Rattle.std.specs.Prelude.{ℕ, ◌+◌, List, [], ◌∷◌, ◌++◌, Result, Ok, Err}
use Rattle.dv_bag.specs.declared.fault.Fault.{Fault}
use Rattle.dv_bag.specs.declared.state.Effect.{Effect}
use Rattle.dv_bag.specs.declared.value.Value.{Value}
use Rattle.dv_code.specs.Machine.{Outcome, Finished, Faulted}
use Rattle.dv_code.specs.declared.instruction.Instruction.{Instruction}
use Rattle.dv_code.specs.declared.instruction.Instruction.TheVariants as code
use Rattle.dv_gen.specs.Resolved.{Expression, Read, Prefix, Infix, And, Or, Statements, Done, Act, Obey, When, If, For, gone}

-- the address past the code of an expression that begins at an address
abbrev pub past : ℕ → Expression → ℕ
past p (Read l) = p + 1
past p (Prefix u a) = past p a + 1
past p (Infix o a b) = past (past p a) b + 1
past p (And a b) = past (past p a + 1) b
past p (Or a b) = past (past p a + 1) b

abbrev pub code_of : ℕ → Expression → List Instruction
code_of p (Read l) = code.Push l ∷ []
code_of p (Prefix u a) = code_of p a ++ code.Apply u ∷ []
code_of p (Infix o a b) = code_of p a ++ (code_of (past p a) b ++ code.Combine o ∷ [])
code_of p (And a b) = code_of p a ++ code.FalseKeep (past (past p a + 1) b) ∷ code_of (past p a + 1) b
code_of p (Or a b) = code_of p a ++ code.TrueKeep (past (past p a + 1) b) ∷ code_of (past p a + 1) b

-- the address past the code of statements that begins at an address
abbrev pub past_all : ℕ → Statements → ℕ
past_all p Done = p
past_all p (Act a value rest) = past_all (past p value + 1) rest
past_all p (Obey d rest) = past_all (p + 1) rest
past_all p (When condition block rest) = past_all (past_all (past p condition + 1) block) rest
past_all p (If condition block other rest) = past_all (past_all (past_all (past p condition + 1) block + 1) other) rest
past_all p (For s block rest) = past_all (past_all (p + 1) block + 1) rest

abbrev pub code_of_all : ℕ → Statements → List Instruction
code_of_all p Done = []
code_of_all p (Act a value rest) = code_of p value ++ code.Perform a ∷ code_of_all (past p value + 1) rest
code_of_all p (Obey d rest) = code.Do d ∷ code_of_all (p + 1) rest
code_of_all p (When condition block rest) =
    let then_at = past p condition + 1 in
    let after = past_all then_at block in
    code_of p condition ++ code.JumpFalse after ∷ (code_of_all then_at block ++ code_of_all after rest)
code_of_all p (If condition block other rest) =
    let then_at = past p condition + 1 in
    let else_at = past_all then_at block + 1 in
    let after = past_all else_at other in
    code_of p condition
    ++ code.JumpFalse else_at ∷ (code_of_all then_at block ++ code.Jump after ∷ (code_of_all else_at other ++ code_of_all after rest))
code_of_all p (For s block rest) =
    let next = past_all (p + 1) block in
    code.Loop s (next + 1) ∷ (code_of_all (p + 1) block ++ code.Next (p + 1) ∷ code_of_all (next + 1) rest)

-- the program of a rule, and that of a hold
abbrev pub program_of : Statements → List Instruction
program_of body = code_of_all 0 body ++ code.End ∷ []

abbrev pub hold_program_of : Expression → List Instruction
hold_program_of e = code_of 0 e ++ code.End ∷ []

-- the phases of its deeds Go, in their order
abbrev pub goes : List Instruction → List ℕ
goes [] = []
goes (code.Do d ∷ rest) = gone d ++ goes rest
goes (i ∷ rest) = goes rest

-- how a run with this meaning ends
abbrev pub ending : Result Effect Fault → Outcome
ending (Ok e) = Finished [] e
ending (Err f) = Faulted f

abbrev pub hold_ending : Effect → Result Value Fault → Outcome
hold_ending e (Ok v) = Finished (v ∷ []) e
hold_ending e (Err f) = Faulted f
