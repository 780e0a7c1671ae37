-- States that fit a model: they fit the slots of its tables, and have at each index what the name of that index stands for.
-- The bags and queues of an accepted model are small.
use Rattle.std.proofs.Common.{◌≡◌, ℕ, zero, suc, ◌<◌, ◌≤◌, Bool, true, false, ◌&&◌, nat_le, if◌then◌else◌, List, [], ◌∷◌, ◌++◌, map}
use Rattle.std.proofs.Common.{refl, sym, ap, ◌∙◌, Some, arith, ℤ, option_map}
use Rattle.std.specs.Prelude.{slice_get}
use Rattle.std.specs.List.{flat_map}
use Rattle.std.proofs.lemmas.Bool.{leb-true}
use Rattle.dv_syntax.specs.Trees.{AtomicTree}
use Rattle.dv_syntax.specs.declared.tree.Name.{Name}
use Rattle.dv_syntax.specs.declared.tree.Declaration.{Declaration}
use Rattle.dv_syntax.specs.declared.tree.Declaration.TheVariants.{In, Out, Var, Flag, Held}
use Rattle.dv_bag.specs.Collections.{count_in, discipline_of, same_discipline}
use Rattle.dv_bag.specs.Limits.{greatest_count}
use Rattle.dv_bag.specs.declared.collection.Collection.{Collection}
use Rattle.dv_bag.specs.declared.discipline.Discipline.{Discipline}
use Rattle.dv_bag.specs.declared.state.Datum.{Datum}
use Rattle.dv_bag.specs.declared.state.Datum.TheVariants as datum
use Rattle.dv_bag.specs.declared.state.State.{State}
use Rattle.dv_bag.proofs.Collections.{disciplines_same}
use Rattle.dv_eval.specs.Scope.{is_declared, names_of, range_of, scope_of, state_variables_in, with_variable, with_variables, Scope}
use Rattle.dv_eval.specs.declared.scope.Domain.{Domain}
use Rattle.dv_eval.specs.declared.scope.Domain.TheVariants as domain
use Rattle.dv_check.specs.Rules.{atomic_refusals, collection_refusals, declaration_refusals, is_capacity, variable_refusals}
use Rattle.dv_check.proofs.CheckedFiles.{both_nil, not_false, not_refused}
use Rattle.law_accepted.specs.Fitting.{data_fit, datum_fits, fits, fits_in}
use Rattle.law_accepted.proofs.Fitting.{both_true, parts_of_none}
use Rattle.dv_code.specs.Shape.{AreSmall, Fits, FitsSlot}
use Rattle.dv_code.specs.declared.shape.Slot.TheVariants.{Holding}
use Rattle.dv_gen.specs.Resolution.{slot_of, tables_of}
use Rattle.dv_eval.specs.declared.scope.VariableRange.{VariableRange}
use Rattle.law_accepted.proofs.Known.{fits_at}
use Rattle.dv_gen.proofs.KnownNames.{HasDomain, StandsForHeld}

-- ---- States and tables

datum_fits_slot : (d : Domain) (x : Datum) → datum_fits d x ≡ true → FitsSlot (slot_of d) x
datum_fits_slot (domain.Number range) (datum.Number n) fit = fit
datum_fits_slot (domain.Number range) (datum.Flag b) fit = absurd (cc)
datum_fits_slot (domain.Number range) (datum.Held c) fit = absurd (cc)
datum_fits_slot (domain.Flag start) (datum.Number n) fit = absurd (cc)
datum_fits_slot (domain.Flag start) (datum.Flag b) fit = tt
datum_fits_slot (domain.Flag start) (datum.Held c) fit = absurd (cc)
datum_fits_slot (domain.Held d capacity) (datum.Number n) fit = absurd (cc)
datum_fits_slot (domain.Held d capacity) (datum.Flag b) fit = absurd (cc)
datum_fits_slot (domain.Held d capacity) (datum.Held c) fit =
    let few = nat_le (count_in c) capacity && nat_le capacity greatest_count in
    let both = both_true (same_discipline d (discipline_of c)) few fit in
    let within = both_true (nat_le (count_in c) capacity) (nat_le capacity greatest_count) both.1 in
    (sym (disciplines_same d (discipline_of c) both.0), leb-true (count_in c) capacity within.0)

data_fit_slots : (variables : List (ℕ × Domain)) (xs : List Datum) → data_fit variables xs ≡ true
    → Fits (map (λ v. slot_of v.1) variables) xs
data_fit_slots [] [] fit = tt
data_fit_slots [] (x ∷ xs) fit = absurd (cc)
data_fit_slots (v ∷ variables) [] fit = absurd (cc)
data_fit_slots (v ∷ variables) (x ∷ xs) fit =
    let both = both_true (datum_fits v.1 x) (data_fit variables xs) fit in
    (datum_fits_slot v.1 x both.0, data_fit_slots variables xs both.1)

pub states_fit : (m : AtomicTree) (s : State) → fits m s ≡ true → Fits (tables_of (scope_of m)).slots s.variables
states_fit m s fit = data_fit_slots (scope_of m).variables s.variables (both_true _ (data_fit (scope_of m).variables s.variables) fit).1

-- ---- What a state that fits has at indices

number_datum : (range : VariableRange) (d : Datum) → datum_fits (domain.Number range) d ≡ true → (n : ℤ) × (d ≡ datum.Number n)
number_datum range (datum.Number n) fit = (n, refl)
number_datum range (datum.Flag b) fit = absurd (cc)
number_datum range (datum.Held c) fit = absurd (cc)

flag_datum : (start : Bool) (d : Datum) → datum_fits (domain.Flag start) d ≡ true → (b : Bool) × (d ≡ datum.Flag b)
flag_datum start (datum.Number n) fit = absurd (cc)
flag_datum start (datum.Flag b) fit = (b, refl)
flag_datum start (datum.Held c) fit = absurd (cc)

held_datum : (d : Discipline) (capacity : ℕ) (x : Datum) → datum_fits (domain.Held d capacity) x ≡ true
    → (c : Collection) × (x ≡ datum.Held c) × (discipline_of c ≡ d)
held_datum d capacity (datum.Number n) fit = absurd (cc)
held_datum d capacity (datum.Flag b) fit = absurd (cc)
held_datum d capacity (datum.Held c) fit =
    let few = nat_le (count_in c) capacity && nat_le capacity greatest_count in
    (c, refl, sym (disciplines_same d (discipline_of c) (both_true (same_discipline d (discipline_of c)) few fit).0))

module _ (scope : Scope) (s : State) (fit : fits_in scope s ≡ true) (q : ℕ) where
  datum_there : (d : Domain) (has : HasDomain scope q d)
      → (x : Datum) × (slice_get s.variables has.index ≡ Some x) × (datum_fits d x ≡ true)
  datum_there d has =
      let there = ap (option_map (λ (v : ℕ × Domain). v.1)) has.there in
      let held = fits_at scope.variables s.variables has.index d (both_true _ (data_fit scope.variables s.variables) fit).1 there in
      (held.datum, held.there, held.fitting)

  pub number_there : (range : VariableRange) (has : HasDomain scope q (domain.Number range))
      → (n : ℤ) × (slice_get s.variables has.index ≡ Some (datum.Number n))
  number_there range has =
      let held = datum_there (domain.Number range) has in
      let number = number_datum range held.0 held.2 in
      (number.0, held.1 ∙ ap (λ x. Some x) number.1)

  pub flag_there : (start : Bool) (has : HasDomain scope q (domain.Flag start))
      → (b : Bool) × (slice_get s.variables has.index ≡ Some (datum.Flag b))
  flag_there start has =
      let held = datum_there (domain.Flag start) has in
      let flag = flag_datum start held.0 held.2 in
      (flag.0, held.1 ∙ ap (λ x. Some x) flag.1)

  pub held_there : (d : Discipline) (stands : StandsForHeld scope d q)
      → (c : Collection) × (slice_get s.variables stands.has.index ≡ Some (datum.Held c)) × (discipline_of c ≡ d)
  held_there d stands =
      let there = datum_there (domain.Held d stands.capacity) stands.has in
      let held = held_datum d stands.capacity there.0 there.2 in
      (held.0, there.1 ∙ ap (λ x. Some x) held.1, held.2)

-- ---- Capacities

abbrev HasCapacity : Domain → Type 0
HasCapacity (domain.Number range) = Unit {0}
HasCapacity (domain.Flag start) = Unit {0}
HasCapacity (domain.Held d capacity) = (0 < capacity) × (capacity ≤ greatest_count)

abbrev HaveCapacities : List (ℕ × Domain) → Type 0
HaveCapacities [] = Unit {0}
HaveCapacities (v ∷ variables) = HasCapacity v.1 × HaveCapacities variables

have_capacities_push : (variables : List (ℕ × Domain)) (v : ℕ × Domain) → HaveCapacities variables → HasCapacity v.1
    → HaveCapacities (variables ++ v ∷ [])
have_capacities_push [] v have has = (has, tt)
have_capacities_push (w ∷ variables) v have has = (have.0, have_capacities_push variables v have.1 has)

have_capacities_if : (b : Bool) (variables : List (ℕ × Domain)) (v : ℕ × Domain) → HaveCapacities variables → HasCapacity v.1
    → HaveCapacities (if b then variables else variables ++ v ∷ [])
have_capacities_if true variables v have has = have
have_capacities_if false variables v have has = have_capacities_push variables v have has

have_capacities_with : (variables : List (ℕ × Domain)) (v : Name × Domain) → HaveCapacities variables → HasCapacity v.1
    → HaveCapacities (with_variable variables v)
have_capacities_with variables v have has =
    have_capacities_if (is_declared v.0.number (names_of variables)) variables (v.0.number, v.1) have has

capacity_within : (capacity : ℕ) → is_capacity capacity ≡ true → (0 < capacity) × (capacity ≤ greatest_count)
capacity_within capacity is =
    let both = both_true (nat_le 1 capacity) (nat_le capacity greatest_count) is in
    let least = leb-true 1 capacity both.0 in
    (omega arith, leb-true capacity greatest_count both.1)

declarations_have_capacities : (ds : List Declaration) (variables : List (ℕ × Domain)) → flat_map declaration_refusals ds ≡ []
    → HaveCapacities variables → HaveCapacities (with_variables variables (state_variables_in ds))
declarations_have_capacities [] variables none have = have
declarations_have_capacities (In port ∷ ds) variables none have = declarations_have_capacities ds variables none have
declarations_have_capacities (Out port ∷ ds) variables none have = declarations_have_capacities ds variables none have
declarations_have_capacities (Var v ∷ ds) variables none have =
    let both = both_nil (variable_refusals v) (flat_map declaration_refusals ds) none in
    declarations_have_capacities ds _ both.1 (have_capacities_with variables (v.name, domain.Number (range_of v)) have tt)
declarations_have_capacities (Flag f ∷ ds) variables none have =
    declarations_have_capacities ds _ none (have_capacities_with variables (f.name, domain.Flag f.start) have tt)
declarations_have_capacities (Held c ∷ ds) variables none have =
    let both = both_nil (collection_refusals c) (flat_map declaration_refusals ds) none in
    let within = capacity_within c.capacity.value (not_false _ (not_refused _ _ _ both.0)) in
    let held = domain.Held c.discipline c.capacity.value in
    declarations_have_capacities ds _ both.1 (have_capacities_with variables (c.name, held) have within)

capacity_of_slot : (held : Domain) (d : Discipline) (capacity : ℕ) → HasCapacity held → Some (slot_of held) ≡ Some (Holding d capacity)
    → (0 < capacity) × (capacity ≤ greatest_count)
capacity_of_slot (domain.Number range) d capacity has is = absurd (cc)
capacity_of_slot (domain.Flag start) d capacity has is = absurd (cc)
capacity_of_slot (domain.Held kind declared) d capacity has is =
    let same : declared ≡ capacity = cc in
    rw (← same) has

capacities_of_slots : (variables : List (ℕ × Domain)) → HaveCapacities variables → AreSmall (map (λ v. slot_of v.1) variables)
capacities_of_slots [] have index d capacity is = absurd (cc)
capacities_of_slots (v ∷ variables) have zero d capacity is = capacity_of_slot v.1 d capacity have.0 is
capacities_of_slots (v ∷ variables) have (suc index) d capacity is = capacities_of_slots variables have.1 index d capacity is

pub tables_are_small : (m : AtomicTree) → atomic_refusals m ≡ [] → AreSmall (tables_of (scope_of m)).slots
tables_are_small m none =
    capacities_of_slots (scope_of m).variables (declarations_have_capacities m.declarations [] (parts_of_none m none).declarations tt)
