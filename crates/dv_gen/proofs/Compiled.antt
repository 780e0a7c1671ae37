-- From what trees mean to what programs do.
use Rattle.std.proofs.Common.{◌≡◌, ℕ, List, [], ◌∷◌, Option, Some, None, ap, subst, ◌∙◌}
use Rattle.std.specs.Prelude.{IfSome, Result}
use Rattle.dv_bag.specs.declared.fault.Fault.{Fault}
use Rattle.dv_bag.specs.declared.value.ValueType.{ValueType}
use Rattle.dv_code.specs.Machine.{Outcome}
use Rattle.dv_code.specs.Shape.{Shape}
use Rattle.dv_code.specs.Valid.{IsValid}
use Rattle.dv_code.specs.declared.instruction.Instruction.{Instruction}

-- two facts of what an option holds, if it holds something, joined
pub if_both : {X : Type 0} (P Q R : X → Type 0) → ((x : X) → P x → Q x → R x) → (o : Option X) → IfSome o P → IfSome o Q → IfSome o R
if_both P Q R join None p q = tt
if_both P Q R join (Some x) p q = join x p q

-- one fact of it, carried on
pub if_so : {X : Type 0} (P R : X → Type 0) → ((x : X) → P x → R x) → (o : Option X) → IfSome o P → IfSome o R
if_so P R on None p = tt
if_so P R on (Some x) p = on x p

-- a program that leaves a value of a type that is this one
pub left_of_type : (shape : Shape) (code : List Instruction) (one other : ValueType) → one ≡ other → IsValid shape (one ∷ []) 0 code →
    IsValid shape (other ∷ []) 0 code
left_of_type shape code one other same valid = subst (λ (t : ValueType). IsValid shape (t ∷ []) 0 code) same valid

-- the end of a run of what means the same
pub ends_alike : {X : Type 0} (end : Result X Fault → Outcome) (runs : ℕ → Outcome) (one other : Result X Fault) → one ≡ other →
    (n : ℕ) × (runs n ≡ end one) → (n : ℕ) × (runs n ≡ end other)
ends_alike end runs one other same ran = (ran.0, ran.1 ∙ ap end same)
