-- What the names of a model stand for: the sorts of their declarations, what the scope has for them, and their data in a state that
-- fits.
use Rattle.std.proofs.Common.{◌≡◌, ℕ, zero, suc, ◌==◌, Bool, true, false, not, ◌&&◌, if◌then◌else◌, List, [], ◌∷◌, refl, sym, ap}
use Rattle.std.proofs.Common.{◌∙◌, Option, Some, None, option_map}
use Rattle.std.specs.Prelude.{slice_get}
use Rattle.dv_lex.specs.declared.error.RefusalNumber.TheVariants.{E8, E9}
use Rattle.dv_syntax.specs.declared.tree.Declaration.{Declaration}
use Rattle.dv_syntax.specs.declared.tree.Declaration.TheVariants.{In, Out, Var, Flag, Held}
use Rattle.dv_syntax.specs.declared.tree.RuleSort.{RuleSort}
use Rattle.dv_syntax.specs.Trees.{AtomicTree}
use Rattle.dv_bag.specs.Collections.{same_discipline}
use Rattle.dv_bag.specs.declared.discipline.Discipline.{Discipline}
use Rattle.dv_bag.specs.declared.discipline.Discipline.TheVariants as discipline
use Rattle.dv_bag.specs.declared.state.Datum.{Datum}
use Rattle.dv_bag.specs.declared.state.State.{State}
use Rattle.dv_eval.specs.declared.scope.Domain.{Domain}
use Rattle.dv_eval.specs.declared.scope.Domain.TheVariants as domain
use Rattle.dv_eval.specs.Scope.{Scope, names_of, index_of, range_of, scope_of, state_variables_in}
use Rattle.dv_check.specs.declared.declarations.NameSort.{NameSort}
use Rattle.dv_check.specs.declared.declarations.NameSort.TheVariants.{Variable as ForVariable, Flag as ForFlag, Held as ForHeld}
use Rattle.dv_check.specs.declared.declarations.NameSort.TheVariants.{Input as ForInput, Output as ForOutput}
use Rattle.dv_check.specs.declared.declarations.NameSort.TheVariants.{LoopVariable as ForLoopVariable}
use Rattle.dv_check.specs.declared.wanted.Wanted.{Wanted}
use Rattle.dv_check.specs.Couplings.{is_input, is_output}
use Rattle.dv_check.specs.Names.{first_of, refusal, refusal_if}
use Rattle.dv_check.specs.Types.{held_name_refusals, sees_inputs, suits, suits_port, value_name_refusals}
use Rattle.dv_check.specs.Types.{is_readable as is_readable_sort}
use Rattle.dv_check.specs.Rules.{assignment_refusals, changed_refusals, sent_port_refusals, sort_in}
use Rattle.law_accepted.specs.Fitting.{data_fit, datum_fits, domain_at, domain_named, fits_in, has_value, holds, HoldsDatum, is_held}
use Rattle.law_accepted.specs.Fitting.{is_readable, is_variable, wanted_of}
use Rattle.dv_check.proofs.CheckedFiles.{not_refused, not_false}
use Rattle.dv_check.proofs.Declared.{input_declared}
use Rattle.law_accepted.proofs.Entries.{declared_in, domain_entered, entry_in, with_variables_entry}
use Rattle.law_accepted.proofs.Fitting.{and_true, both_true, or_second}

-- ---- Names that have data in a state

-- what names stand for that have data in a state
abbrev pub is_stored : Option NameSort → Bool
is_stored None = false
is_stored (Some ForVariable) = true
is_stored (Some ForFlag) = true
is_stored (Some (ForHeld d)) = true
is_stored (Some ForInput) = false
is_stored (Some ForOutput) = false
is_stored (Some ForLoopVariable) = false

abbrev pub sort_of_domain : Domain → NameSort
sort_of_domain (domain.Number range) = ForVariable
sort_of_domain (domain.Flag start) = ForFlag
sort_of_domain (domain.Held d capacity) = ForHeld d

sorted_if : (b : Bool) (d : Domain) (sort : NameSort) (found : Option Domain) (rest : Option NameSort) → sort_of_domain d ≡ sort
    → is_stored (if b then Some sort else rest) ≡ true → (is_stored rest ≡ true → option_map sort_of_domain found ≡ rest)
    → option_map sort_of_domain (if b then Some d else found) ≡ (if b then Some sort else rest)
sorted_if true d sort found rest is e later = ap (λ x. Some x) is
sorted_if false d sort found rest is e later = later e

port_if : (b : Bool) (sort : NameSort) (found : Option Domain) (rest : Option NameSort) → is_stored (Some sort) ≡ false
    → is_stored (if b then Some sort else rest) ≡ true → (is_stored rest ≡ true → option_map sort_of_domain found ≡ rest)
    → option_map sort_of_domain found ≡ (if b then Some sort else rest)
port_if true sort found rest other e later = absurd (cc)
port_if false sort found rest other e later = later e

-- the first declaration of a state variable is that of its domain
declared_sort : (q : ℕ) (ds : List Declaration) → is_stored (sort_in ds q) ≡ true
    → option_map sort_of_domain (declared_in (state_variables_in ds) q) ≡ sort_in ds q
unfolding first_of
declared_sort q [] e = absurd (cc)
declared_sort q (In port ∷ ds) e =
    port_if (port.number == q) ForInput (declared_in (state_variables_in ds) q) _ refl e (declared_sort q ds)
declared_sort q (Out port ∷ ds) e =
    port_if (port.number == q) ForOutput (declared_in (state_variables_in ds) q) _ refl e (declared_sort q ds)
declared_sort q (Var v ∷ ds) e =
    sorted_if (v.name.number == q) (domain.Number (range_of v)) ForVariable (declared_in (state_variables_in ds) q) _ refl e
    (declared_sort q ds)
declared_sort q (Flag f ∷ ds) e =
    sorted_if (f.name.number == q) (domain.Flag f.start) ForFlag (declared_in (state_variables_in ds) q) _ refl e (declared_sort q ds)
declared_sort q (Held c ∷ ds) e =
    sorted_if (c.name.number == q) (domain.Held c.discipline c.capacity.value) (ForHeld c.discipline)
    (declared_in (state_variables_in ds) q) _ refl e (declared_sort q ds)

-- a name of a state variable with what it may hold
pub record Entered (m : AtomicTree) (q : ℕ) : Type 0 where
  pub domain : Domain
  pub there : entry_in (scope_of m).variables q ≡ Some domain
  pub sort : Some (sort_of_domain domain) ≡ sort_in m.declarations q

entered_at : (m : AtomicTree) (q : ℕ) (o : Option Domain) → entry_in (scope_of m).variables q ≡ o
    → option_map sort_of_domain o ≡ sort_in m.declarations q → is_stored (sort_in m.declarations q) ≡ true → Entered m q
entered_at m q None there sort e = let none : is_stored None ≡ true = ap is_stored sort ∙ e in absurd (cc)
entered_at m q (Some d) there sort e = record { domain = d; there = there; sort = sort }

pub sort_entered : (m : AtomicTree) (q : ℕ) → is_stored (sort_in m.declarations q) ≡ true → Entered m q
unfolding first_of
sort_entered m q e =
    let vs = state_variables_in m.declarations in
    entered_at m q (declared_in vs q) (with_variables_entry q vs []) (declared_sort q m.declarations e) e

pub sort_named : (m : AtomicTree) (q : ℕ) → is_stored (sort_in m.declarations q) ≡ true
    → (d : Domain) × (domain_named (scope_of m) q ≡ Some d) × (Some (sort_of_domain d) ≡ sort_in m.declarations q)
sort_named m q e =
    let h = sort_entered m q e in
    (h.domain, domain_entered (scope_of m) q h.domain h.there, h.sort)

-- ---- Sorts of names

-- what stands for a value, and what is assigned
abbrev pub is_value_sort : Option NameSort → Bool
is_value_sort None = false
is_value_sort (Some ForVariable) = true
is_value_sort (Some ForFlag) = true
is_value_sort (Some (ForHeld d)) = false
is_value_sort (Some ForInput) = false
is_value_sort (Some ForOutput) = false
is_value_sort (Some ForLoopVariable) = true

abbrev pub is_variable_sort : Option NameSort → Bool
is_variable_sort None = false
is_variable_sort (Some ForVariable) = true
is_variable_sort (Some ForFlag) = true
is_variable_sort (Some (ForHeld d)) = false
is_variable_sort (Some ForInput) = false
is_variable_sort (Some ForOutput) = false
is_variable_sort (Some ForLoopVariable) = false

-- a bag or a queue of the state of which this is wanted
abbrev pub is_held_sort : Wanted → Option NameSort → Bool
is_held_sort w None = false
is_held_sort w (Some ForVariable) = false
is_held_sort w (Some ForFlag) = false
is_held_sort w (Some (ForHeld d)) = suits w d
is_held_sort w (Some ForInput) = false
is_held_sort w (Some ForOutput) = false
is_held_sort w (Some ForLoopVariable) = false

variable_stored : (o : Option NameSort) → is_variable_sort o ≡ true → is_stored o ≡ true
variable_stored None e = absurd (cc)
variable_stored (Some ForVariable) e = refl
variable_stored (Some ForFlag) e = refl
variable_stored (Some (ForHeld d)) e = absurd (cc)
variable_stored (Some ForInput) e = absurd (cc)
variable_stored (Some ForOutput) e = absurd (cc)
variable_stored (Some ForLoopVariable) e = absurd (cc)

held_stored : (w : Wanted) (o : Option NameSort) → is_held_sort w o ≡ true → is_stored o ≡ true
held_stored w None e = absurd (cc)
held_stored w (Some ForVariable) e = absurd (cc)
held_stored w (Some ForFlag) e = absurd (cc)
held_stored w (Some (ForHeld d)) e = refl
held_stored w (Some ForInput) e = absurd (cc)
held_stored w (Some ForOutput) e = absurd (cc)
held_stored w (Some ForLoopVariable) e = absurd (cc)

value_domain : (d : Domain) → is_variable_sort (Some (sort_of_domain d)) ≡ has_value (Some d)
value_domain (domain.Number range) = refl
value_domain (domain.Flag start) = refl
value_domain (domain.Held d capacity) = refl

held_domain : (w : Wanted) (d : Domain) → is_held_sort w (Some (sort_of_domain d)) ≡ holds w (Some d)
held_domain w (domain.Number range) = refl
held_domain w (domain.Flag start) = refl
held_domain w (domain.Held d capacity) = refl

-- no declaration is that of a loop variable
abbrev pub is_of_loop : Option NameSort → Bool
is_of_loop None = false
is_of_loop (Some ForVariable) = false
is_of_loop (Some ForFlag) = false
is_of_loop (Some (ForHeld d)) = false
is_of_loop (Some ForInput) = false
is_of_loop (Some ForOutput) = false
is_of_loop (Some ForLoopVariable) = true

of_no_loop_if : (b : Bool) (sort : NameSort) (o : Option NameSort) → is_of_loop (Some sort) ≡ false → is_of_loop o ≡ false
    → is_of_loop (if b then Some sort else o) ≡ false
of_no_loop_if true sort o here later = here
of_no_loop_if false sort o here later = later

pub of_no_loop : (q : ℕ) (ds : List Declaration) → is_of_loop (sort_in ds q) ≡ false
unfolding first_of
of_no_loop q [] = refl
of_no_loop q (In port ∷ ds) = of_no_loop_if (port.number == q) ForInput (sort_in ds q) refl (of_no_loop q ds)
of_no_loop q (Out port ∷ ds) = of_no_loop_if (port.number == q) ForOutput (sort_in ds q) refl (of_no_loop q ds)
of_no_loop q (Var v ∷ ds) = of_no_loop_if (v.name.number == q) ForVariable (sort_in ds q) refl (of_no_loop q ds)
of_no_loop q (Flag f ∷ ds) = of_no_loop_if (f.name.number == q) ForFlag (sort_in ds q) refl (of_no_loop q ds)
of_no_loop q (Held c ∷ ds) = of_no_loop_if (c.name.number == q) (ForHeld c.discipline) (sort_in ds q) refl (of_no_loop q ds)

pub value_outside : (o : Option NameSort) → is_of_loop o ≡ false → is_value_sort o ≡ true → is_variable_sort o ≡ true
value_outside None outside e = absurd (cc)
value_outside (Some ForVariable) outside e = refl
value_outside (Some ForFlag) outside e = refl
value_outside (Some (ForHeld d)) outside e = absurd (cc)
value_outside (Some ForInput) outside e = absurd (cc)
value_outside (Some ForOutput) outside e = absurd (cc)
value_outside (Some ForLoopVariable) outside e = absurd (cc)

-- ---- What the scope has for a name

module _ (m : AtomicTree) (q : ℕ) where
  pub variable_there : is_variable_sort (sort_in m.declarations q) ≡ true → is_variable (scope_of m) q ≡ true
  variable_there e =
      let h = sort_named m q (variable_stored (sort_in m.declarations q) e) in
      ap has_value h.1 ∙ (sym (value_domain h.0) ∙ (ap is_variable_sort h.2 ∙ e))

  pub held_there : (w : Wanted) → is_held_sort w (sort_in m.declarations q) ≡ true → is_held w (scope_of m) q ≡ true
  held_there w e =
      let h = sort_named m q (held_stored w (sort_in m.declarations q) e) in
      ap (holds w) h.1 ∙ (sym (held_domain w h.0) ∙ (ap (is_held_sort w) h.2 ∙ e))

  pub readable_as : (w : Wanted) (rule : Option RuleSort) (o : Option NameSort) → sort_in m.declarations q ≡ o
      → is_readable_sort w rule o ≡ true → is_readable w (scope_of m) rule q ≡ true
  readable_as w rule None sort e = absurd (cc)
  readable_as w rule (Some ForVariable) sort e = absurd (cc)
  readable_as w rule (Some ForFlag) sort e = absurd (cc)
  readable_as w rule (Some (ForHeld d)) sort e =
      let held = held_there w (ap (is_held_sort w) sort ∙ e) in
      rw held refl
  readable_as w rule (Some ForInput) sort e =
      let both = both_true (suits_port w) (sees_inputs rule) e in
      let declared = input_declared q m.declarations [] (ap is_input sort) in
      or_second (is_held w (scope_of m) q) _ (and_true (suits_port w) _ both.0 (and_true (sees_inputs rule) _ both.1 declared))
  readable_as w rule (Some ForOutput) sort e = absurd (cc)
  readable_as w rule (Some ForLoopVariable) sort e = absurd (cc)

-- ---- A name without refusals is of the sort that its offset wants

pub value_name_known : (o : Option NameSort) (offset : ℕ) → value_name_refusals o offset ≡ [] → is_value_sort o ≡ true
value_name_known None offset e = absurd (cc)
value_name_known (Some ForVariable) offset e = refl
value_name_known (Some ForFlag) offset e = refl
value_name_known (Some (ForHeld d)) offset e = absurd (cc)
value_name_known (Some ForInput) offset e = absurd (cc)
value_name_known (Some ForOutput) offset e = absurd (cc)
value_name_known (Some ForLoopVariable) offset e = refl

port_known : (b seen : Bool) (offset : ℕ) → (if b then refusal_if (not seen) E9 offset else refusal E8 offset ∷ []) ≡ []
    → (b && seen) ≡ true
port_known true seen offset e = not_false seen (not_refused _ _ _ e)
port_known false seen offset e = absurd (cc)

pub held_name_known : (w : Wanted) (rule : Option RuleSort) (o : Option NameSort) (offset : ℕ)
    → held_name_refusals w rule o offset ≡ [] → is_readable_sort w rule o ≡ true
held_name_known w rule None offset e = absurd (cc)
held_name_known w rule (Some ForVariable) offset e = absurd (cc)
held_name_known w rule (Some ForFlag) offset e = absurd (cc)
held_name_known w rule (Some (ForHeld d)) offset e = not_false (suits w d) (not_refused _ _ _ e)
held_name_known w rule (Some ForInput) offset e = port_known (suits_port w) (sees_inputs rule) offset e
held_name_known w rule (Some ForOutput) offset e = absurd (cc)
held_name_known w rule (Some ForLoopVariable) offset e = absurd (cc)

same_suits : (d other : Discipline) → same_discipline other d ≡ true → suits (wanted_of d) other ≡ true
same_suits discipline.Bag other same = same
same_suits discipline.Queue other same = same

pub changed_known : (d : Discipline) (o : Option NameSort) (offset : ℕ) → changed_refusals d o offset ≡ []
    → is_held_sort (wanted_of d) o ≡ true
changed_known d None offset e = absurd (cc)
changed_known d (Some ForVariable) offset e = absurd (cc)
changed_known d (Some ForFlag) offset e = absurd (cc)
changed_known d (Some (ForHeld other)) offset e = same_suits d other (not_false (same_discipline other d) (not_refused _ _ _ e))
changed_known d (Some ForInput) offset e = absurd (cc)
changed_known d (Some ForOutput) offset e = absurd (cc)
changed_known d (Some ForLoopVariable) offset e = absurd (cc)

pub assigned_known : (rule : Option RuleSort) (o : Option NameSort) (offset : ℕ) → assignment_refusals rule o offset ≡ []
    → is_variable_sort o ≡ true
assigned_known rule None offset e = absurd (cc)
assigned_known rule (Some ForVariable) offset e = refl
assigned_known rule (Some ForFlag) offset e = refl
assigned_known rule (Some (ForHeld d)) offset e = absurd (cc)
assigned_known rule (Some ForInput) offset e = absurd (cc)
assigned_known rule (Some ForOutput) offset e = absurd (cc)
assigned_known rule (Some ForLoopVariable) offset e = absurd (cc)

pub sent_known : (o : Option NameSort) (offset : ℕ) → sent_port_refusals o offset ≡ [] → is_output o ≡ true
sent_known None offset e = absurd (cc)
sent_known (Some ForVariable) offset e = absurd (cc)
sent_known (Some ForFlag) offset e = absurd (cc)
sent_known (Some (ForHeld d)) offset e = absurd (cc)
sent_known (Some ForInput) offset e = absurd (cc)
sent_known (Some ForOutput) offset e = refl
sent_known (Some ForLoopVariable) offset e = absurd (cc)

-- ---- Data of state variables

-- the datum at the index of an entry
pub record FitsAt (ds : List Datum) (index : ℕ) (o : Domain) : Type 0 where
  pub datum : Datum
  pub there : slice_get ds index ≡ Some datum
  pub fitting : datum_fits o datum ≡ true

pub fits_at : (vs : List (ℕ × Domain)) (ds : List Datum) (index : ℕ) (o : Domain) → data_fit vs ds ≡ true
    → option_map (λ v. v.1) (slice_get vs index) ≡ Some o → FitsAt ds index o
fits_at [] ds index o e is = absurd (cc)
fits_at (v ∷ vs) [] index o e is = absurd (cc)
fits_at (v ∷ vs) (d ∷ ds) zero o e is =
    let same : v.1 ≡ o = cc in
    record { datum = d; there = refl; fitting = rw (← same) (both_true (datum_fits v.1 d) (data_fit vs ds) e).0 }
fits_at (v ∷ vs) (d ∷ ds) (suc index) o e is =
    let h = fits_at vs ds index o (both_true (datum_fits v.1 d) (data_fit vs ds) e).1 is in
    record { datum = h.datum; there = h.there; fitting = h.fitting }

datum_held_at : (scope : Scope) (s : State) (q : ℕ) (d : Domain) (o : Option ℕ) → data_fit scope.variables s.variables ≡ true
    → index_of q (names_of scope.variables) ≡ o → domain_at scope.variables o ≡ Some d → HoldsDatum scope s q d
datum_held_at scope s q d None fit found is = absurd (cc)
datum_held_at scope s q d (Some index) fit found is =
    let held = fits_at scope.variables s.variables index d fit is in
    record { index = index; found = found; datum = held.datum; there = held.there; fitting = held.fitting }

pub datum_held : (scope : Scope) (s : State) (q : ℕ) (d : Domain) → fits_in scope s ≡ true → domain_named scope q ≡ Some d
    → HoldsDatum scope s q d
datum_held scope s q d fit is =
    datum_held_at scope s q d (index_of q (names_of scope.variables)) (both_true _ (data_fit scope.variables s.variables) fit).1 refl is
