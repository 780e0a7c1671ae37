-- States that fit a model, from the start on.
use Rattle.std.proofs.Common.{◌≡◌, ℕ, ◌+◌, ◌<◌, ◌==◌, Bool, true, false, not, ◌&&◌, ◌||◌, nat_le, int_lt, if◌then◌else◌, List, []}
use Rattle.std.proofs.Common.{◌∷◌, ◌++◌, length, refl, Some, arith}
use Rattle.std.specs.List.{flat_map, list_any}
use Rattle.std.proofs.lemmas.Bool.{lt-ltb}
use Rattle.std.proofs.lemmas.Bool.Decides.{nat_tests}
use Rattle.dv_syntax.specs.declared.tree.Name.{Name}
use Rattle.dv_syntax.specs.declared.tree.Declaration.{Declaration}
use Rattle.dv_syntax.specs.declared.tree.Declaration.TheVariants.{In, Out, Var, Flag, Held}
use Rattle.dv_syntax.specs.declared.tree.Start.{Start}
use Rattle.dv_syntax.specs.Trees.{AtomicTree}
use Rattle.dv_bag.specs.Collections.{empty_of}
use Rattle.dv_bag.specs.Limits.{greatest_count}
use Rattle.dv_bag.specs.declared.discipline.Discipline.{Discipline}
use Rattle.dv_bag.specs.declared.discipline.Discipline.TheVariants as discipline
use Rattle.dv_bag.specs.declared.state.Datum.TheVariants as datum
use Rattle.dv_eval.specs.declared.scope.VariableRange.{VariableRange}
use Rattle.dv_eval.specs.declared.scope.Domain.{Domain}
use Rattle.dv_eval.specs.declared.scope.Domain.TheVariants as domain
use Rattle.dv_eval.specs.Scope.{is_declared, names_of, phases_in, index_from, index_of, range_of, scope_of, start_data}
use Rattle.dv_eval.specs.Scope.{start_datum, start_phase, start_state, state_variables_in, with_names, with_variable}
use Rattle.dv_eval.specs.Scope.{with_variables}
use Rattle.dv_check.specs.Names.{among}
use Rattle.dv_check.specs.Rules.{atomic_refusals, collection_refusals, declaration_refusals, hold_refusals, is_capacity}
use Rattle.dv_check.specs.Rules.{is_out_of_range, items_refusals, known_in, names_refusals, once_refusals, phase_refusals, rule_refusals}
use Rattle.dv_check.specs.Rules.{standing_refusals, start_hold_refusals, start_offsets, start_refusals, variable_refusals}
use Rattle.dv_check.specs.Rules.{holds_once_refusals, phases_offsets}
use Rattle.law_accepted.specs.Fitting.{data_fit, datum_fits, fits}
use Rattle.dv_check.proofs.CheckedFiles.{both_nil, not_refused, not_false}
use Rattle.dv_check.proofs.Declared.{new_declared, stays_declared}

pub both_true : (a b : Bool) → (a && b) ≡ true → (a ≡ true) × (b ≡ true)
both_true true b e = (refl, e)
both_true false b e = absurd (cc)

pub and_true : (a b : Bool) → a ≡ true → b ≡ true → (a && b) ≡ true
and_true a b ha hb = rw ha hb

pub or_second : (a b : Bool) → b ≡ true → (a || b) ≡ true
or_second true b e = refl
or_second false b e = e

-- ---- Indices of declared names

-- where a declared name stands
pub record HasIndex (name : ℕ) (names : List ℕ) : Type 0 where
  pub index : ℕ
  pub found : index_of name names ≡ Some index
  pub within : index < length names

record HasIndexFrom (k name : ℕ) (names : List ℕ) : Type 0 where
  index : ℕ
  found : index_from k name names ≡ Some index
  within : index < k + length names

index_if : (b : Bool) (k name n : ℕ) (names : List ℕ) → (n == name) ≡ b → (b || is_declared name names) ≡ true
    → (is_declared name names ≡ true → HasIndexFrom (k + 1) name names) → HasIndexFrom k name (n ∷ names)
index_if true k name n names test e later = record { index = k; found = rw test refl; within = omega arith }
index_if false k name n names test e later =
    let h = later e in
    record { index = h.index; found = rw test h.found; within = omega (arith, h.within) }

index_from_declared : (k name : ℕ) (names : List ℕ) → is_declared name names ≡ true → HasIndexFrom k name names
index_from_declared k name [] e = absurd (cc)
index_from_declared k name (n ∷ names) e = index_if (n == name) k name n names refl e (index_from_declared (k + 1) name names)

pub index_of_declared : (name : ℕ) (names : List ℕ) → is_declared name names ≡ true → HasIndex name names
index_of_declared name names e =
    let h = index_from_declared 0 name names e in
    record { index = h.index; found = h.found; within = omega (arith, h.within) }

-- an index that is found is within the names
found_within_if : (b : Bool) (k p name n : ℕ) (names : List ℕ) → (if b then Some k else index_from (k + 1) name names) ≡ Some p
    → (index_from (k + 1) name names ≡ Some p → p < k + 1 + length names) → p < k + length (n ∷ names)
found_within_if true k p name n names e later = let same : k ≡ p = cc in omega (arith, same)
found_within_if false k p name n names e later = omega (arith, later e)

found_within_from : (k p name : ℕ) (names : List ℕ) → index_from k name names ≡ Some p → p < k + length names
found_within_from k p name [] e = absurd (cc)
found_within_from k p name (n ∷ names) e = found_within_if (n == name) k p name n names e (found_within_from (k + 1) p name names)

pub found_within : (p name : ℕ) (names : List ℕ) → index_of name names ≡ Some p → p < length names
found_within p name names e = omega (arith, found_within_from 0 p name names e)

-- ---- Data that fit

push_fits : (vs : List (ℕ × Domain)) (v : ℕ × Domain) → data_fit vs (start_data vs) ≡ true
    → datum_fits v.1 (start_datum v.1) ≡ true → data_fit (vs ++ v ∷ []) (start_data (vs ++ v ∷ [])) ≡ true
push_fits [] v e h = and_true _ true h refl
push_fits (x ∷ vs) v e h =
    let both = both_true (datum_fits x.1 (start_datum x.1)) (data_fit vs (start_data vs)) e in
    and_true (datum_fits x.1 (start_datum x.1)) _ both.0 (push_fits vs v both.1 h)

with_variable_fits_if : (b : Bool) (vs : List (ℕ × Domain)) (v : ℕ × Domain) → data_fit vs (start_data vs) ≡ true
    → datum_fits v.1 (start_datum v.1) ≡ true
    → data_fit (if b then vs else vs ++ v ∷ []) (start_data (if b then vs else vs ++ v ∷ [])) ≡ true
with_variable_fits_if true vs v e h = e
with_variable_fits_if false vs v e h = push_fits vs v e h

in_range : (empty below above : Bool) → (empty || (below || above)) ≡ false → (not below && not above) ≡ true
in_range false false false e = refl
in_range false false true e = absurd (cc)
in_range false true above e = absurd (cc)
in_range true below above e = absurd (cc)

start_fits : (r : VariableRange) → is_out_of_range r ≡ false → datum_fits (domain.Number r) (datum.Number r.start) ≡ true
start_fits r e = in_range (int_lt r.high r.low) (int_lt r.start r.low) (int_lt r.high r.start) e

none_within : (capacity : ℕ) → is_capacity capacity ≡ true → (nat_le 0 capacity && nat_le capacity greatest_count) ≡ true
none_within capacity e =
    and_true (nat_le 0 capacity) (nat_le capacity greatest_count) (grind (arith, nat_tests)) (both_true (nat_le 1 capacity) _ e).1

empty_fits : (d : Discipline) (capacity : ℕ) → is_capacity capacity ≡ true
    → datum_fits (domain.Held d capacity) (datum.Held (empty_of d)) ≡ true
empty_fits discipline.Bag capacity e = none_within capacity e
empty_fits discipline.Queue capacity e = none_within capacity e

starts_fit : (ds : List Declaration) (entries : List (ℕ × Domain)) → flat_map declaration_refusals ds ≡ []
    → data_fit entries (start_data entries) ≡ true
    → data_fit (with_variables entries (state_variables_in ds)) (start_data (with_variables entries (state_variables_in ds))) ≡ true
starts_fit [] entries none e = e
starts_fit (In port ∷ ds) entries none e = starts_fit ds entries none e
starts_fit (Out port ∷ ds) entries none e = starts_fit ds entries none e
starts_fit (Var v ∷ ds) entries none e =
    let both = both_nil (variable_refusals v) (flat_map declaration_refusals ds) none in
    let fits = start_fits (range_of v) (not_refused _ _ _ both.0) in
    let d = domain.Number (range_of v) in
    starts_fit ds (with_variable entries (v.name, d)) both.1
    (with_variable_fits_if (is_declared v.name.number (names_of entries)) entries (v.name.number, d) e fits)
starts_fit (Flag f ∷ ds) entries none e =
    let d = domain.Flag f.start in
    starts_fit ds (with_variable entries (f.name, d)) none
    (with_variable_fits_if (is_declared f.name.number (names_of entries)) entries (f.name.number, d) e refl)
starts_fit (Held c ∷ ds) entries none e =
    let both = both_nil (collection_refusals c) (flat_map declaration_refusals ds) none in
    let d = domain.Held c.discipline c.capacity.value in
    let fits = empty_fits c.discipline c.capacity.value (not_false _ (not_refused _ _ _ both.0)) in
    starts_fit ds (with_variable entries (c.name, d)) both.1
    (with_variable_fits_if (is_declared c.name.number (names_of entries)) entries (c.name.number, d) e fits)

-- a phase that is among those of the items is declared
among_if : (b : Bool) (q : ℕ) (n : Name) (ns : List Name) (names : List ℕ) → (n.number == q) ≡ b
    → (b || list_any (λ (x : Name). x.number == q) ns) ≡ true
    → (list_any (λ (x : Name). x.number == q) ns ≡ true → is_declared q (with_names names (n ∷ ns)) ≡ true)
    → is_declared q (with_names names (n ∷ ns)) ≡ true
among_if true q n ns names same e later = stays_declared q _ ns (new_declared q names n same)
among_if false q n ns names other e later = later e

among_declared_from : (q : ℕ) (ns : List Name) (names : List ℕ) → list_any (λ (x : Name). x.number == q) ns ≡ true
    → is_declared q (with_names names ns) ≡ true
among_declared_from q [] names e = absurd (cc)
among_declared_from q (n ∷ ns) names e = among_if (n.number == q) q n ns names refl e (among_declared_from q ns _)

pub among_declared : (q : ℕ) (ns : List Name) → among ns q ≡ true → is_declared q (with_names [] ns) ≡ true
unfolding among
among_declared q ns e = among_declared_from q ns [] e

-- ---- The start

pub record Parts (m : AtomicTree) : Type 0 where
  pub starts : once_refusals m.name.offset (start_offsets m.starts) ≡ []
  pub declarations : flat_map declaration_refusals m.declarations ≡ []
  pub known : flat_map (start_refusals (known_in m)) m.starts ≡ []
  pub holds : flat_map (hold_refusals (known_in m)) m.holds ≡ []
  pub rules : flat_map (rule_refusals (known_in m)) m.rules ≡ []

pub parts_of_none : (m : AtomicTree) → atomic_refusals m ≡ [] → Parts m
parts_of_none m e =
    let k = known_in m in
    let declarations = flat_map declaration_refusals m.declarations in
    let starts = flat_map (start_refusals k) m.starts in
    let holds = flat_map (hold_refusals k) m.holds in
    let rules = flat_map (rule_refusals k) m.rules in
    let behind_names =
    (both_nil (names_refusals m) (standing_refusals m ++ (items_refusals k m ++ start_hold_refusals k m m.starts)) e).1 in
    let standing = both_nil (standing_refusals m) (items_refusals k m ++ start_hold_refusals k m m.starts) behind_names in
    let items = (both_nil (items_refusals k m) (start_hold_refusals k m m.starts) standing.1).0 in
    let behind_phases =
    (both_nil (once_refusals m.name.offset (phases_offsets m.phases))
    (once_refusals m.name.offset (start_offsets m.starts) ++ holds_once_refusals m) standing.0).1 in
    let sorted = both_nil declarations (starts ++ (holds ++ rules)) items in
    let behind_starts = both_nil starts (holds ++ rules) sorted.1 in
    record {
      starts = (both_nil (once_refusals m.name.offset (start_offsets m.starts)) (holds_once_refusals m) behind_phases).0;
      declarations = sorted.0;
      known = behind_starts.0;
      holds = (both_nil holds rules behind_starts.1).0;
      rules = (both_nil holds rules behind_starts.1).1;
    }

pub phase_declared : (m : AtomicTree) (phase : Name) → phase_refusals (known_in m) phase ≡ []
    → is_declared phase.number (scope_of m).phases ≡ true
phase_declared m phase e = among_declared phase.number (phases_in m.phases) (not_false _ (not_refused _ _ _ e))

start_phase_within : (m : AtomicTree) (starts : List Start) → once_refusals m.name.offset (start_offsets starts) ≡ []
    → flat_map (start_refusals (known_in m)) starts ≡ [] → start_phase (scope_of m) starts < length (scope_of m).phases
start_phase_within m [] once none = absurd (cc)
start_phase_within m (s ∷ starts) once none =
    let known = (both_nil (start_refusals (known_in m) s) (flat_map (start_refusals (known_in m)) starts) none).0 in
    let h = index_of_declared s.phase.number (scope_of m).phases (phase_declared m s.phase known) in
    rw h.found h.within

pub start_state_fits : (m : AtomicTree) → atomic_refusals m ≡ [] → fits m (start_state m) ≡ true
start_state_fits m e =
    let p = parts_of_none m e in
    and_true _ _ (lt-ltb _ _ (start_phase_within m m.starts p.starts p.known)) (starts_fit m.declarations [] p.declarations refl)
