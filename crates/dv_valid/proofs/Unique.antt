-- The marks that make a program valid are the only ones: each is settled by those behind it.
use Rattle.std.proofs.Common.{◌≡◌, ℕ, ◌+◌, ◌<◌, ◌≤◌, List, [], ◌∷◌, length, Some, refl, sym, ◌∙◌, ap, subst, arith}
use Rattle.std.specs.Prelude.{slice_get}
use Rattle.std.proofs.lemmas.Option.{slice_get_within}
use Rattle.dv_bag.specs.declared.value.ValueType.{ValueType}
use Rattle.dv_bag.specs.declared.value.ValueType.TheVariants.{Truth}
use Rattle.dv_code.specs.Shape.{Shape, left_by}
use Rattle.dv_code.specs.Known.{action_type}
use Rattle.dv_code.specs.Valid.{Agrees, Arrives, Body, IsFine, LiesIn, Mark as Meant, mark}
use Rattle.dv_code.specs.Limits.{deepest_loops}
use Rattle.dv_code.specs.declared.shape.ProgramSort.{ProgramSort}
use Rattle.dv_code.specs.declared.instruction.Instruction.{Instruction}
use Rattle.dv_code.specs.declared.instruction.Instruction.TheVariants.{Push, Apply, Combine, Perform, Do, Jump, JumpFalse}
use Rattle.dv_code.specs.declared.instruction.Instruction.TheVariants.{FalseKeep, TrueKeep, Loop, Next, End}
use Rattle.dv_valid.specs.Marks.{Fit, IsForced, Settles, settling_address, with_top}

-- a mark with one more type on top than the mark behind it
one_more : (top : ValueType) (below : List ValueType) (here after : Meant) → here.types ≡ top ∷ below → after ≡ mark below here.nest
    → here ≡ with_top top after
one_more top below here after e f = ap (λ ts. mark ts here.nest) e ∙ ap (with_top top) (sym f)

module _ (shape : Shape) (code : List Instruction) (marks these : ℕ → Meant) (fit : Fit shape code marks) where
  module _ (address : ℕ) (same : (k : ℕ) → address + 1 ≤ k → k < length code → these k ≡ marks k) where
    -- what arrives at the next address
    next : (types : List ValueType) (nest : List Body) → Arrives (length code) marks (address + 1) types nest
        → these (address + 1) ≡ mark types nest
    next types nest a = same (address + 1) (omega arith) a.0 ∙ a.1

    forced_by : (i : Instruction) → length (marks address).nest ≤ deepest_loops
        → Agrees shape (left_by shape.sort) (length code) marks address (marks address).types (marks address).nest i
        → IsForced (left_by shape.sort) (length code) these (address + 1) i (marks address)
    forced_by (Push l) d h = (h.1.0, d, next _ _ h.1)
    forced_by (Apply u) d h = (h.3.0, d, next _ _ h.3 ∙ ap (λ ts. mark ts (marks address).nest) (sym h.1))
    forced_by (Combine o) d h = (h.2.0, d, (h.0, h.1, next _ _ h.2))
    forced_by (Perform a) d h = (h.3.0, d, one_more (action_type a) h.0 (marks address) (these (address + 1)) h.1 (next _ _ h.3))
    forced_by (Do a) d h = (h.1.0, d, next _ _ h.1)
    forced_by (Jump to) d h = (h.1.0, d, same to (omega arith) h.1.0 ∙ h.1.1)
    forced_by (JumpFalse to) d h = (h.3.0, d, one_more Truth h.0 (marks address) (these (address + 1)) h.1 (next _ _ h.3))
    forced_by (FalseKeep to) d h = (h.3.0, d, one_more Truth h.0 (marks address) (these (address + 1)) h.1 (next _ _ h.3))
    forced_by (TrueKeep to) d h = (h.3.0, d, one_more Truth h.0 (marks address) (these (address + 1)) h.1 (next _ _ h.3))
    forced_by (Loop s past) d h = (h.2.0, d, (record { first = address + 1; past = past }, h.0, ap (λ m. m.nest) (next _ _ h.2)))
    forced_by (Next first) d h = (
      h.4.0,
      d,
      ap (λ ts. mark ts (marks address).nest) h.1 ∙ ap (mark []) h.2
          ∙ ap (λ outer. mark [] (record { first = first; past = address + 1 } ∷ outer)) (ap (λ m. m.nest) (sym (next _ _ h.4))),
    )
    forced_by End d h = ap (λ ts. mark ts (marks address).nest) h.0 ∙ ap (mark (left_by shape.sort)) h.1

    -- the marks behind an address leave no other for it
    pub forced : (sort : ProgramSort) (end : ℕ) (i : Instruction) → shape.sort ≡ sort → end ≡ length code
        → slice_get code address ≡ Some i → IsForced (left_by sort) end these (address + 1) i (marks address)
    forced sort end i same_sort same_end e =
        let fine = fit.each address i e in
        subst (λ n. IsForced (left_by sort) n these (address + 1) i (marks address)) (sym same_end)
        (subst (λ s. IsForced (left_by s) (length code) these (address + 1) i (marks address)) same_sort
        (forced_by i fine.shallow fine.agrees))

  module _ (same : (k : ℕ) → k < length code → these k ≡ marks k) where
    arrives_too : (to : ℕ) (types : List ValueType) (nest : List Body) → Arrives (length code) marks to types nest
        → Arrives (length code) these to types nest
    arrives_too to types nest a = (a.0, same to a.0 ∙ a.1)

    agrees_too : (left : List ValueType) (address : ℕ) (types : List ValueType) (nest : List Body) (i : Instruction)
        → Agrees shape left (length code) marks address types nest i → Agrees shape left (length code) these address types nest i
    agrees_too left address types nest (Push l) h = (h.0, arrives_too _ _ _ h.1)
    agrees_too left address types nest (Apply u) h = (h.0, h.1, h.2, arrives_too _ _ _ h.3)
    agrees_too left address types nest (Combine o) h = (h.0, h.1, arrives_too _ _ _ h.2)
    agrees_too left address types nest (Perform a) h = (h.0, h.1, h.2, arrives_too _ _ _ h.3)
    agrees_too left address types nest (Do d) h = (h.0, arrives_too _ _ _ h.1)
    agrees_too left address types nest (Jump to) h = (
      h.0,
      arrives_too _ _ _ h.1,
      ap (λ m. m.nest) (same (address + 1) (let before = h.0 in let within = h.1.0 in omega (arith, before, within))) ∙ h.2,
    )
    agrees_too left address types nest (JumpFalse to) h = (h.0, h.1, h.2, arrives_too _ _ _ h.3, arrives_too _ _ _ h.4)
    agrees_too left address types nest (FalseKeep to) h = (h.0, h.1, h.2, arrives_too _ _ _ h.3, arrives_too _ _ _ h.4)
    agrees_too left address types nest (TrueKeep to) h = (h.0, h.1, h.2, arrives_too _ _ _ h.3, arrives_too _ _ _ h.4)
    agrees_too left address types nest (Loop s past) h = (h.0, h.1, arrives_too _ _ _ h.2, arrives_too _ _ _ h.3)
    agrees_too left address types nest (Next first) h = (h.0, h.1, h.2, arrives_too _ _ _ h.3, arrives_too _ _ _ h.4)
    agrees_too left address types nest End h = h

    fine_too : (address : ℕ) (i : Instruction) → address < length code
        → IsFine shape (left_by shape.sort) deepest_loops (length code) marks address i
        → IsFine shape (left_by shape.sort) deepest_loops (length code) these address i
    fine_too address i h fine =
        let at = sym (same address h) in
        record {
          lies = subst (λ m. LiesIn (length code) address m.nest) at fine.lies;
          shallow = subst (λ m. length m.nest ≤ deepest_loops) at fine.shallow;
          agrees = subst (λ m. Agrees shape (left_by shape.sort) (length code) these address m.types m.nest i) at
              (agrees_too (left_by shape.sort) address (marks address).types (marks address).nest i fine.agrees);
        }

    -- marks that are the same in the program fit too
    pub fits_too : Fit shape code these
    fits_too = record {
      start = arrives_too 0 [] [] fit.start;
      each = λ address i e. fine_too address i (slice_get_within code address i e) (fit.each address i e);
    }

-- what is forced by the mark of another address
pub forced_parts : (left : List ValueType) (end : ℕ) (marks : ℕ → Meant) (after : ℕ) (i : Instruction) (here : Meant) → (i ≡ End → ⊥)
    → IsForced left end marks after i here
    → (settling_address after i < end) × (length here.nest ≤ deepest_loops) × Settles after i here (marks (settling_address after i))
forced_parts left end marks after End here other f = absurd (other refl)
forced_parts left end marks after (Push l) here other f = f
forced_parts left end marks after (Apply u) here other f = f
forced_parts left end marks after (Combine o) here other f = f
forced_parts left end marks after (Perform a) here other f = f
forced_parts left end marks after (Do d) here other f = f
forced_parts left end marks after (Jump to) here other f = f
forced_parts left end marks after (JumpFalse to) here other f = f
forced_parts left end marks after (FalseKeep to) here other f = f
forced_parts left end marks after (TrueKeep to) here other f = f
forced_parts left end marks after (Loop s past) here other f = f
forced_parts left end marks after (Next first) here other f = f
