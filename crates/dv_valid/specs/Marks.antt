-- What the marks that the validator keeps mean, and which mark follows from an instruction.
use Rattle.std.specs.Prelude.{◌≡◌, ℕ, ◌+◌, ◌<◌, ◌≤◌, List, [], ◌∷◌, length, slice_get, Option, Some, None}
use Rattle.dv_bag.specs.declared.value.ValueType.{ValueType}
use Rattle.dv_bag.specs.declared.value.ValueType.TheVariants.{Truth}
use Rattle.dv_code.specs.Shape.{Shape, left_by}
use Rattle.dv_code.specs.Known.{action_type, leaf_type, operand_type, result_type}
use Rattle.dv_code.specs.Valid.{Agrees, Arrives, Body, IsFine, Mark as Meant, mark}
use Rattle.dv_code.specs.Limits.{deepest_loops}
use Rattle.dv_code.specs.declared.instruction.Instruction.{Instruction}
use Rattle.dv_code.specs.declared.instruction.Instruction.TheVariants.{Push, Apply, Combine, Perform, Do, Jump, JumpFalse}
use Rattle.dv_code.specs.declared.instruction.Instruction.TheVariants.{FalseKeep, TrueKeep, Loop, Next, End}
use Rattle.dv_valid.specs.Stacks.{Stacks, types_at}
use Rattle.dv_valid.specs.Nests.{bodies}
use Rattle.dv_valid.specs.declared.marks.Mark.{Mark}
use Rattle.dv_valid.specs.declared.marks.Marks.{Marks}

-- what a mark means, with these stacks by number
abbrev pub meaning : Stacks → Mark → Meant
meaning stacks m = mark (types_at stacks m.types) (bodies m.nest)

-- a mark with one more type on top
abbrev pub with_top : ValueType → Meant → Meant
with_top top m = mark (top ∷ m.types) m.nest

-- a mark whose stack has a number
abbrev pub IsNumbered : Stacks → Mark → Type 0
IsNumbered stacks m = m.types < length stacks

-- what is kept for an address means
abbrev pub meaning_at : Stacks → Option Mark → Meant
meaning_at stacks None = mark [] []
meaning_at stacks (Some m) = meaning stacks m

-- the mark of each address
abbrev pub mark_of : Marks → ℕ → Meant
mark_of m address = meaning_at m.stacks (slice_get m.by_address.items address)

-- each mark has the number of a stack
abbrev pub AreNumbered : Marks → Type 0
AreNumbered m = (address : ℕ) (found : Mark) → slice_get m.by_address.items address ≡ Some found → IsNumbered m.stacks found

-- an address of the program, with a mark for it
abbrev pub IsMarkAt : Marks → ℕ → Mark → Type 0
IsMarkAt m address here = AreNumbered m × IsNumbered m.stacks here × (address < length m.by_address.items)

-- the address whose mark determines that of an instruction before the next address
abbrev pub settling_address : ℕ → Instruction → ℕ
settling_address next (Jump to) = to
settling_address next other = next

-- an instruction with this mark leads to that one, and can have no other
abbrev pub Settles : ℕ → Instruction → Meant → Meant → Type 0
Settles next (Push l) here after = after ≡ with_top (leaf_type l) here
Settles next (Apply u) here after = after ≡ here
Settles next (Combine o) here after =
    (below : List ValueType) × (here.types ≡ operand_type o ∷ operand_type o ∷ below) × (after ≡ mark (result_type o ∷ below) here.nest)
Settles next (Perform a) here after = here ≡ with_top (action_type a) after
Settles next (Do d) here after = after ≡ here
Settles next (Jump to) here after = after ≡ here
Settles next (JumpFalse to) here after = here ≡ with_top Truth after
Settles next (FalseKeep to) here after = here ≡ with_top Truth after
Settles next (TrueKeep to) here after = here ≡ with_top Truth after
Settles next (Loop s past) here after = (b : Body) × (here.types ≡ []) × (after.nest ≡ b ∷ here.nest)
Settles next (Next first) here after = here ≡ mark [] (record { first = first; past = next } ∷ after.nest)
Settles next End here after = ⊥

-- by the marks after an address, only this mark is possible for it
abbrev pub IsForced : List ValueType → ℕ → (ℕ → Meant) → ℕ → Instruction → Meant → Type 0
IsForced left end marks next End here = here ≡ mark left []
IsForced left end marks next i here =
    (settling_address next i < end) × (length here.nest ≤ deepest_loops) × Settles next i here (marks (settling_address next i))

-- a mark was found, and it is this one
abbrev pub IsFound : Stacks → Meant → Option Mark → Type 0
IsFound stacks here None = ⊥
IsFound stacks here (Some m) = meaning stacks m ≡ here

-- a mark that was found has the number of a stack
abbrev pub MayBeNumbered : Stacks → Option Mark → Type 0
MayBeNumbered stacks None = Unit {0}
MayBeNumbered stacks (Some m) = IsNumbered stacks m

-- these marks make a program valid
pub record Fit (shape : Shape) (code : List Instruction) (marks : ℕ → Meant) : Type 0 where
  pub start : Arrives (length code) marks 0 [] []
  pub each : (address : ℕ) (i : Instruction) → slice_get code address ≡ Some i
      → IsFine shape (left_by shape.sort) deepest_loops (length code) marks address i

-- by the marks that are kept after an address, only this mark is possible for it
abbrev pub IsForcedAt : List ValueType → Marks → ℕ → Instruction → Meant → Type 0
IsForcedAt left m address i here = IsForced left (length m.by_address.items) (mark_of m) (address + 1) i here

-- by the marks that are kept, this mark is at an address of the program
abbrev pub ArrivesAt : Marks → ℕ → Meant → Type 0
ArrivesAt m to here = Arrives (length m.by_address.items) (mark_of m) to here.types here.nest

-- an instruction with a mark agrees with the marks that are kept
abbrev pub AgreesAt : Shape → Marks → ℕ → Meant → Instruction → Type 0
AgreesAt shape m address here i = Agrees shape (left_by shape.sort) (length m.by_address.items) (mark_of m) address here.types here.nest i
