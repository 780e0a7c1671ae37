-- From a state that fits a model, its rules lead to states that fit.
use Rattle.std.proofs.Common.{◌≡◌, ℕ, ℤ, zero, suc, ◌<◌, Bool, true, false, nat_lt, if◌then◌else◌, List, [], ◌∷◌, length}
use Rattle.std.proofs.Common.{replicate, refl, sym, ap, ◌∙◌, Option, Some, None, Result, Ok, Err, IfOk}
use Rattle.std.specs.Prelude.{slice_get, slice_set}
use Rattle.std.proofs.lemmas.Bool.{lt-ltb}
use Rattle.dv_syntax.specs.Trees.{Statements}
use Rattle.dv_bag.specs.Collections.{changed, popped}
use Rattle.dv_bag.specs.declared.collection.Collection.{Collection}
use Rattle.dv_bag.specs.declared.discipline.Change.{Change}
use Rattle.dv_bag.specs.declared.fault.Fault.{Fault}
use Rattle.dv_bag.specs.declared.fault.Fault.TheVariants as fault
use Rattle.dv_bag.specs.declared.state.Datum.{Datum}
use Rattle.dv_bag.specs.declared.state.Datum.TheVariants as datum
use Rattle.dv_bag.specs.declared.state.State.{State}
use Rattle.dv_bag.specs.declared.state.Effect.{Effect}
use Rattle.dv_bag.specs.declared.value.Value.{Value}
use Rattle.dv_eval.specs.declared.scope.Domain.{Domain}
use Rattle.dv_eval.specs.declared.scope.Domain.TheVariants as domain
use Rattle.dv_eval.specs.Scope.{Scope, names_of, index_of}
use Rattle.dv_bag.specs.Arrivals.{Arrivals}
use Rattle.dv_bag.specs.Effects.{is_within, with_datum, with_state}
use Rattle.dv_eval.specs.Meaning.{Context, assignment_at, assignment_in_domain, assignment_to, capacity_in, capacity_of, changing_at}
use Rattle.dv_eval.specs.Meaning.{effect_of, number_of, outermost, popping_at, run, truth_of, with_goto, with_made, with_value_at}
use Rattle.law_accepted.specs.Fitting.{data_fit, datum_fits, fits_in, in_phase, LeadsToPhase}
use Rattle.law_accepted.proofs.Fitting.{and_true, both_true, found_within}
use Rattle.law_accepted.proofs.Collections.{MadeFits, changed_fits, popped_fits}
use Rattle.law_accepted.proofs.Keeping.{StatementsKeep, changing_at_keeps, made_keeps, popping_at_keeps, run_keeps}

pub record Fits (scope : Scope) (e : Effect) : Type 0 where
  pub state : fits_in scope e.state ≡ true
  pub goto : LeadsToPhase scope e.goto

-- a datum of the domain of its index
set_fits : (vs : List (ℕ × Domain)) (ds : List Datum) (index : ℕ) (v : ℕ × Domain) (new : Datum) → data_fit vs ds ≡ true
    → slice_get vs index ≡ Some v → datum_fits v.1 new ≡ true → data_fit vs (slice_set ds index new) ≡ true
set_fits [] ds index v new e there fit = absurd (cc)
set_fits (x ∷ vs) [] index v new e there fit = absurd (cc)
set_fits (x ∷ vs) (d ∷ ds) zero v new e there fit =
    let same : x ≡ v = cc in
    and_true _ _ (rw same fit) (both_true (datum_fits x.1 d) (data_fit vs ds) e).1
set_fits (x ∷ vs) (d ∷ ds) (suc index) v new e there fit =
    let both = both_true (datum_fits x.1 d) (data_fit vs ds) e in
    and_true (datum_fits x.1 d) _ both.0 (set_fits vs ds index v new both.1 there fit)

-- the state variable whose datum stands at an index
record HasVariable (vs : List (ℕ × Domain)) (index : ℕ) (d : Datum) : Type 0 where
  variable : ℕ × Domain
  there : slice_get vs index ≡ Some variable
  fitting : datum_fits variable.1 d ≡ true

has_variable : (vs : List (ℕ × Domain)) (ds : List Datum) (index : ℕ) (d : Datum) → data_fit vs ds ≡ true
    → slice_get ds index ≡ Some d → HasVariable vs index d
has_variable [] [] index d e there = absurd (cc)
has_variable [] (x ∷ ds) index d e there = absurd (cc)
has_variable (v ∷ vs) [] index d e there = absurd (cc)
has_variable (v ∷ vs) (x ∷ ds) zero d e there =
    let same : x ≡ d = cc in
    record { variable = v; there = refl; fitting = ap (datum_fits v.1) (sym same) ∙ (both_true (datum_fits v.1 x) (data_fit vs ds) e).0 }
has_variable (v ∷ vs) (x ∷ ds) (suc index) d e there =
    let h = has_variable vs ds index d (both_true (datum_fits v.1 x) (data_fit vs ds) e).1 there in
    record { variable = h.variable; there = h.there; fitting = h.fitting }

module _ (scope : Scope) where
  datum_put_fits : (index : ℕ) (v : ℕ × Domain) (d : Datum) (e : Effect) → slice_get scope.variables index ≡ Some v
      → datum_fits v.1 d ≡ true → Fits scope e → Fits scope (with_state e (with_datum e.state index d))
  datum_put_fits index v d e there new fit =
      let both = both_true (nat_lt e.state.phase (length scope.phases)) (data_fit scope.variables e.state.variables) fit.state in
      record { state = and_true _ _ both.0 (set_fits scope.variables e.state.variables index v d both.1 there new); goto = fit.goto }

  -- ---- Assignments

  number_put_fits : (b : Bool) (index : ℕ) (v : ℕ × Domain) (n : ℤ) (e : Effect) → slice_get scope.variables index ≡ Some v
      → datum_fits v.1 (datum.Number n) ≡ b → Fits scope e
      → IfOk (if b then Ok (with_state e (with_datum e.state index (datum.Number n))) else Err fault.Range) (Fits scope)
  number_put_fits true index v n e there new fit = datum_put_fits index v (datum.Number n) e there new fit
  number_put_fits false index v n e there new fit = tt

  assignment_in_domain_fits : (d : Domain) (name index : ℕ) (x : Value) (e : Effect) → slice_get scope.variables index ≡ Some (name, d)
      → Fits scope e → IfOk (assignment_in_domain d index x e) (Fits scope)
  assignment_in_domain_fits (domain.Number r) name index x e there fit =
      number_put_fits (is_within r.low r.high (number_of x)) index (name, domain.Number r) (number_of x) e there refl fit
  assignment_in_domain_fits (domain.Flag start) name index x e there fit =
      datum_put_fits index (name, domain.Flag start) (datum.Flag (truth_of x)) e there refl fit
  assignment_in_domain_fits (domain.Held d capacity) name index x e there fit = fit

  assignment_to_fits : (o : Option (ℕ × Domain)) (index : ℕ) (x : Value) (e : Effect) → slice_get scope.variables index ≡ o
      → Fits scope e → IfOk (assignment_to o index x e) (Fits scope)
  assignment_to_fits None index x e there fit = fit
  assignment_to_fits (Some v) index x e there fit = assignment_in_domain_fits v.1 v.0 index x e there fit

  assignment_at_fits : (o : Option ℕ) (x : Value) (e : Effect) → Fits scope e → IfOk (assignment_at scope o x e) (Fits scope)
  assignment_at_fits None x e fit = fit
  assignment_at_fits (Some index) x e fit = assignment_to_fits (slice_get scope.variables index) index x e refl fit

  -- ---- Collections

  variable_at : (e : Effect) (index : ℕ) (d : Datum) → Fits scope e → slice_get e.state.variables index ≡ Some d
      → HasVariable scope.variables index d
  variable_at e index d fit there =
      has_variable scope.variables e.state.variables index d (both_true (nat_lt e.state.phase (length scope.phases)) _ fit.state).1 there

  made_put_fits : (index : ℕ) (v : ℕ × Domain) (made : Option (Result Collection Fault)) (e : Effect)
      → slice_get scope.variables index ≡ Some v → MadeFits v.1 made → Fits scope e → IfOk (with_made index e made) (Fits scope)
  made_put_fits index v made e there new fit =
      made_keeps (Fits scope) e fit (λ (c : Collection). datum_fits v.1 (datum.Held c) ≡ true) index made new
      (λ c fitting. datum_put_fits index v (datum.Held c) e there fitting fit)

  changing_at_fits : (c : Change) (o : Option ℕ) (n : ℤ) (e : Effect) → Fits scope e → IfOk (changing_at scope c o n e) (Fits scope)
  changing_at_fits c o n e fit =
      changing_at_keeps (Fits scope) e fit scope c o n (λ index most held room content.
      let h = variable_at e index (datum.Held held) fit content in
      let capacity : capacity_in h.variable.1 ≡ Some most = sym (ap capacity_of h.there) ∙ room in
      made_put_fits index h.variable (changed c most n held) e h.there (changed_fits h.variable.1 c most n held capacity h.fitting) fit)

  popping_at_fits : (o : Option ℕ) (e : Effect) → Fits scope e → IfOk (popping_at o e) (Fits scope)
  popping_at_fits o e fit =
      popping_at_keeps (Fits scope) e fit o (λ index held content.
      let h = variable_at e index (datum.Held held) fit content in
      made_put_fits index h.variable (popped held) e h.there (popped_fits h.variable.1 held h.fitting) fit)

  -- ---- What is sent, and gotos

  with_value_fits : (o : Option ℕ) (n : ℤ) (e : Effect) → Fits scope e → Fits scope (with_value_at o n e)
  with_value_fits None n e fit = fit
  with_value_fits (Some port) n e fit = record { state = fit.state; goto = fit.goto }

  pub goto_fits : (o : Option ℕ) (phase : ℕ) (e : Effect) → index_of phase scope.phases ≡ o → Fits scope e → Fits scope (with_goto o e)
  goto_fits None phase e is fit = fit
  goto_fits (Some index) phase e is fit = record { state = fit.state; goto = found_within index phase scope.phases is }

  -- ---- Statements

  pub fits_kept : StatementsKeep scope (λ phase. Unit {0}) (Fits scope)
  fits_kept = record {
    assigned = λ name v e fit. assignment_at_fits (index_of name (names_of scope.variables)) v e fit;
    gone = λ phase e anywhere fit. goto_fits (index_of phase scope.phases) phase e refl fit;
    sent = λ port n e fit. with_value_fits (index_of port scope.outputs) n e fit;
    changes = λ c name n e fit. changing_at_fits c (index_of name (names_of scope.variables)) n e fit;
    pops = λ name e fit. popping_at_fits (index_of name (names_of scope.variables)) e fit;
  }

  pub run_fits : (context : Context) (body : Statements) (e : Effect) → Fits scope e → IfOk (run scope context body e) (Fits scope)
  run_fits = run_keeps scope (Fits scope) fits_kept

  pub effect_fits : (body : Statements) (arrivals : Arrivals) (s : State) → fits_in scope s ≡ true
      → IfOk (effect_of scope body arrivals s) (Fits scope)
  effect_fits body arrivals s fit =
      let start : Effect = record { state = s; sent = replicate (length scope.outputs) []; goto = None } in
      run_fits (outermost arrivals) body start (record { state = fit; goto = tt })

  pub phase_fits : (s : State) (index : ℕ) → fits_in scope s ≡ true → index < length scope.phases → fits_in scope (in_phase s index) ≡ true
  phase_fits s index fit within =
      let both = both_true (nat_lt s.phase (length scope.phases)) (data_fit scope.variables s.variables) fit in
      and_true _ _ (lt-ltb index (length scope.phases) within) both.1
