-- The variables of the loops around, by name and by number.
use Rattle.std.proofs.Common.{◌≡◌, ℕ, ◌<◌, ◌==◌, ℤ, Bool, true, false, if◌then◌else◌, List, [], ◌∷◌, length, refl, Option, Some}
use Rattle.std.proofs.Common.{None, Ok, arith}
use Rattle.std.proofs.lemmas.Bool.{eq-eqb, ne_eqb}
use Rattle.dv_syntax.specs.Trees.{AtomicTree}
use Rattle.dv_syntax.specs.declared.tree.Name.{Name}
use Rattle.dv_syntax.specs.declared.tree.RuleSort.{RuleSort}
use Rattle.dv_bag.specs.declared.value.Value.TheVariants as value
use Rattle.dv_eval.specs.Meaning.{loop_value}
use Rattle.dv_eval.specs.Scope.{scope_of}
use Rattle.dv_check.specs.Rules.{atomic_refusals, known_in, known_in_rule}
use Rattle.law_accepted.specs.Fitting.{known_within, values_within}
use Rattle.dv_code.specs.Operations.{item_of}
use Rattle.dv_gen.specs.Resolution.{loop_of}
use Rattle.dv_gen.proofs.KnownNames.{Knows, knows_inside, knows_outside}

-- the variables of the loops around, and their values
abbrev pub loops_of : List (Name × ℤ) → List ℕ
loops_of [] = []
loops_of (v ∷ bound) = v.0.number ∷ loops_of bound

abbrev pub items_within : List (Name × ℤ) → List ℤ
items_within [] = []
items_within (v ∷ bound) = v.1 ∷ items_within bound

as_many : (bound : List (Name × ℤ)) → length (loops_of bound) ≡ length (items_within bound)
as_many [] = refl
as_many (v ∷ bound) = omega (arith, as_many bound)

-- the item of a loop is the value of its variable
pub record IsItem (bound : List (Name × ℤ)) (q loop : ℕ) : Type 0 where
  pub within : loop < length (items_within bound)
  pub number : ℤ
  pub by_name : loop_value q (values_within bound) ≡ Some number
  pub by_index : item_of (items_within bound) loop ≡ Some (Ok (value.Number number))

is_item_if : (b : Bool) (v : Name × ℤ) (bound : List (Name × ℤ)) (q loop : ℕ) → (v.0.number == q) ≡ b
    → (if b then Some (length (loops_of bound)) else loop_of q (loops_of bound)) ≡ Some loop
    → (loop_of q (loops_of bound) ≡ Some loop → IsItem bound q loop) → IsItem (v ∷ bound) q loop
is_item_if true v bound q loop test found later =
    let innermost : length (loops_of bound) ≡ loop = cc in
    let here = eq-eqb loop (length (items_within bound)) (omega (arith, as_many bound)) in
    record { within = omega (arith, as_many bound); number = v.1; by_name = rw test refl; by_index = rw here refl }
is_item_if false v bound q loop test found later =
    let h = later found in
    let further = ne_eqb loop (length (items_within bound)) (λ same. absurd (omega (arith, same, h.within))) in
    record { within = omega (arith, h.within); number = h.number; by_name = rw test h.by_name; by_index = rw further h.by_index }

pub is_item : (bound : List (Name × ℤ)) (q loop : ℕ) → loop_of q (loops_of bound) ≡ Some loop → IsItem bound q loop
is_item [] q loop found = absurd (cc)
is_item (v ∷ bound) q loop found = is_item_if (v.0.number == q) v bound q loop refl found (is_item bound q loop)

no_value_if : (b : Bool) (loop : ℕ) (o : Option ℕ) (n : ℤ) (p : Option ℤ) → (if b then Some loop else o) ≡ None → (o ≡ None → p ≡ None)
    → (if b then Some n else p) ≡ None
no_value_if true loop o n p outside later = absurd (cc)
no_value_if false loop o n p outside later = later outside

-- a name of no loop variable has no value in the loops
pub no_loop_value : (bound : List (Name × ℤ)) (q : ℕ) → loop_of q (loops_of bound) ≡ None → loop_value q (values_within bound) ≡ None
no_loop_value [] q outside = refl
no_loop_value (v ∷ bound) q outside =
    no_value_if (v.0.number == q) (length (loops_of bound)) (loop_of q (loops_of bound)) v.1 (loop_value q (values_within bound)) outside
    (no_loop_value bound q)

-- what is known in these loops stands for something
pub knows_within : (m : AtomicTree) → atomic_refusals m ≡ [] → (rule : Option RuleSort) (bound : List (Name × ℤ))
    → Knows (scope_of m) rule (loops_of bound) (known_within bound (known_in_rule rule (known_in m)))
knows_within m none rule [] = knows_outside m none rule
knows_within m none rule (v ∷ bound) =
    let known = known_within bound (known_in_rule rule (known_in m)) in
    knows_inside (scope_of m) rule (loops_of bound) known v.0 (knows_within m none rule bound)
