-- The name of an input port is that of no state variable: it stands for the bag that has arrived at the port.
use Rattle.std.proofs.Common.{◌≡◌, ℕ, ◌+◌, ◌==◌, Bool, true, false, ◌||◌, if◌then◌else◌, List, [], ◌∷◌, ◌++◌, map, refl, sym, ap}
use Rattle.std.proofs.Common.{◌∙◌, Option, Some, None, is_some, arith}
use Rattle.std.specs.List.{list_any}
use Rattle.std.proofs.lemmas.List.Folds.{list_any-append}
use Rattle.dv_lex.specs.declared.error.RefusalNumber.TheVariants.{E6}
use Rattle.dv_syntax.specs.declared.tree.Name.{Name}
use Rattle.dv_syntax.specs.declared.tree.Declaration.{Declaration}
use Rattle.dv_syntax.specs.declared.tree.Declaration.TheVariants.{In, Out, Var, Flag, Held}
use Rattle.dv_syntax.specs.Trees.{AtomicTree}
use Rattle.dv_bag.specs.declared.collection.Collection.TheVariants as collection
use Rattle.dv_eval.specs.declared.scope.Domain.{Domain}
use Rattle.dv_eval.specs.declared.scope.Domain.TheVariants as domain
use Rattle.dv_eval.specs.Scope.{inputs_in, is_declared, names_of, index_from, index_of, range_of, scope_of, state_variables_in}
use Rattle.dv_eval.specs.Scope.{with_name, with_names}
use Rattle.dv_eval.specs.Meaning.{bag_received, collection_between}
use Rattle.dv_check.specs.Names.{first_of, refusal_if, repeats, repeats_after, with_number}
use Rattle.dv_check.specs.Rules.{atomic_refusals, items_refusals, known_in, name_of_declaration, names_refusals}
use Rattle.dv_check.specs.Rules.{number_of_declaration, standing_refusals, start_hold_refusals}
use Rattle.law_accepted.specs.Fitting.{ReadsPort}
use Rattle.dv_check.proofs.CheckedFiles.{both_nil, not_refused}
use Rattle.law_accepted.proofs.Entries.{declared_entry, declared_in, entry_in, with_variables_entry}
use Rattle.law_accepted.proofs.Fitting.{or_second, index_of_declared}

-- ---- Names that were seen before

-- a declaration of a name
abbrev declares : ℕ → List Declaration → Bool
declares q ds = list_any (λ d. number_of_declaration d == q) ds

-- one of an input port
abbrev declares_input : ℕ → List Declaration → Bool
declares_input q ds = list_any (λ (n : Name). n.number == q) (inputs_in ds)

-- none of the names stands twice, or was seen
abbrev stand_once : (ℕ → Bool) → List Declaration → Type 0
stand_once seen ds = repeats_after seen E6 (map name_of_declaration ds) ≡ []

other_if : (b : Bool) (seen : ℕ → Bool) (n q : ℕ) → (n == q) ≡ b → seen q ≡ true → seen n ≡ false → (n == q) ≡ false
other_if true seen n q test before new =
    let same : n ≡ q = grind (arith, test) in
    let both : true ≡ false = sym before ∙ (ap seen (sym same) ∙ new) in
    absurd (cc)
other_if false seen n q test before new = test

seen_if : (b s : Bool) → (b || s) ≡ true → (if b then true else s) ≡ true
seen_if true s e = refl
seen_if false s e = e

stays_seen : (seen : ℕ → Bool) (n q : ℕ) → seen q ≡ true → with_number seen n q ≡ true
unfolding with_number
stays_seen seen n q before = seen_if (n == q) (seen q) (or_second (n == q) (seen q) before)

now_seen : (seen : ℕ → Bool) (n q : ℕ) → (n == q) ≡ true → with_number seen n q ≡ true
unfolding with_number
now_seen seen n q same = rw same refl

neither_is : (a b : Bool) → a ≡ false → b ≡ false → (a || b) ≡ false
neither_is a b first second = rw first second

-- a name that was seen before is not declared
not_again : (q : ℕ) (seen : ℕ → Bool) (ds : List Declaration) → seen q ≡ true → stand_once seen ds → declares q ds ≡ false
not_again q seen [] before once = refl
not_again q seen (d ∷ ds) before once =
    let n = number_of_declaration d in
    let rest = repeats_after (with_number seen n) E6 (map name_of_declaration ds) in
    let both = both_nil (refusal_if (seen n) E6 (name_of_declaration d).offset) rest once in
    neither_is (n == q) (declares q ds) (other_if (n == q) seen n q refl before (not_refused _ _ _ both.0))
    (not_again q (with_number seen n) ds (stays_seen seen n q before) both.1)

behind_false : (a b : Bool) → (a || b) ≡ false → (a ≡ false) × (b ≡ false)
behind_false false b e = (refl, e)
behind_false true b e = absurd (cc)

-- what is not declared is no state variable
not_stored : (q : ℕ) (ds : List Declaration) → declares q ds ≡ false → declared_in (state_variables_in ds) q ≡ None
unfolding first_of
not_stored q [] e = refl
not_stored q (In port ∷ ds) e = not_stored q ds (behind_false (port.number == q) (declares q ds) e).1
not_stored q (Out port ∷ ds) e = not_stored q ds (behind_false (port.number == q) (declares q ds) e).1
not_stored q (Var v ∷ ds) e =
    let both = behind_false (v.name.number == q) (declares q ds) e in
    rw both.0 (not_stored q ds both.1)
not_stored q (Flag f ∷ ds) e =
    let both = behind_false (f.name.number == q) (declares q ds) e in
    rw both.0 (not_stored q ds both.1)
not_stored q (Held c ∷ ds) e =
    let both = behind_false (c.name.number == q) (declares q ds) e in
    rw both.0 (not_stored q ds both.1)

-- nor an input port
not_input : (q : ℕ) (ds : List Declaration) → declares q ds ≡ false → declares_input q ds ≡ false
not_input q [] e = refl
not_input q (In port ∷ ds) e =
    let both = behind_false (port.number == q) (declares q ds) e in
    neither_is (port.number == q) (declares_input q ds) both.0 (not_input q ds both.1)
not_input q (Out port ∷ ds) e = not_input q ds (behind_false (port.number == q) (declares q ds) e).1
not_input q (Var v ∷ ds) e = not_input q ds (behind_false (v.name.number == q) (declares q ds) e).1
not_input q (Flag f ∷ ds) e = not_input q ds (behind_false (f.name.number == q) (declares q ds) e).1
not_input q (Held c ∷ ds) e = not_input q ds (behind_false (c.name.number == q) (declares q ds) e).1

-- ---- An input port is no state variable

stored_if : (b : Bool) (seen : ℕ → Bool) (n q : ℕ) (d : Domain) (ds : List Declaration) → (n == q) ≡ b → stand_once (with_number seen n) ds
    → declares_input q ds ≡ true → declared_in (state_variables_in ds) q ≡ None
    → (if b then Some d else declared_in (state_variables_in ds) q) ≡ None
stored_if true seen n q d ds same once is later =
    let none = not_input q ds (not_again q (with_number seen n) ds (now_seen seen n q same) once) in
    let both : true ≡ false = sym is ∙ none in
    absurd (cc)
stored_if false seen n q d ds other once is later = later

input_if : (b : Bool) (seen : ℕ → Bool) (n q : ℕ) (ds : List Declaration) → (n == q) ≡ b → stand_once (with_number seen n) ds
    → (b || declares_input q ds) ≡ true → (declares_input q ds ≡ true → declared_in (state_variables_in ds) q ≡ None)
    → declared_in (state_variables_in ds) q ≡ None
input_if true seen n q ds same once is later = not_stored q ds (not_again q (with_number seen n) ds (now_seen seen n q same) once)
input_if false seen n q ds other once is later = later is

once_behind : (seen : ℕ → Bool) (d : Declaration) (ds : List Declaration) → stand_once seen (d ∷ ds)
    → stand_once (with_number seen (number_of_declaration d)) ds
once_behind seen d ds once =
    let n = number_of_declaration d in
    let rest = repeats_after (with_number seen n) E6 (map name_of_declaration ds) in
    (both_nil (refusal_if (seen n) E6 (name_of_declaration d).offset) rest once).1

apart : (q : ℕ) (seen : ℕ → Bool) (ds : List Declaration) → stand_once seen ds → declares_input q ds ≡ true
    → declared_in (state_variables_in ds) q ≡ None
unfolding first_of
apart q seen [] once is = refl
apart q seen (In port ∷ ds) once is =
    let behind = once_behind seen (In port) ds once in
    input_if (port.number == q) seen port.number q ds refl behind is (apart q (with_number seen port.number) ds behind)
apart q seen (Out port ∷ ds) once is = apart q (with_number seen port.number) ds (once_behind seen (Out port) ds once) is
apart q seen (Var v ∷ ds) once is =
    let behind = once_behind seen (Var v) ds once in
    let later = apart q (with_number seen v.name.number) ds behind is in
    stored_if (v.name.number == q) seen v.name.number q (domain.Number (range_of v)) ds refl behind is later
apart q seen (Flag f ∷ ds) once is =
    let behind = once_behind seen (Flag f) ds once in
    let later = apart q (with_number seen f.name.number) ds behind is in
    stored_if (f.name.number == q) seen f.name.number q (domain.Flag f.start) ds refl behind is later
apart q seen (Held c ∷ ds) once is =
    let behind = once_behind seen (Held c) ds once in
    let later = apart q (with_number seen c.name.number) ds behind is in
    stored_if (c.name.number == q) seen c.name.number q (domain.Held c.discipline c.capacity.value) ds refl behind is later

-- ---- Names of a scope

widened : (a b c : Bool) → (a || c) ≡ true → (a || (b || c)) ≡ true
widened true b c e = refl
widened false b c e = or_second b c e

regrouped : (a b c : Bool) → ((a || (b || false)) || c) ≡ true → (a || (b || c)) ≡ true
regrouped true b c e = refl
regrouped false true c e = refl
regrouped false false c e = e

named_if : (b : Bool) (q : ℕ) (n : Name) (names : List ℕ) (rest : Bool)
    → (is_declared q (if b then names else names ++ n.number ∷ []) || rest) ≡ true → (is_declared q names || (n.number == q || rest)) ≡ true
named_if true q n names rest e = widened (is_declared q names) (n.number == q) rest e
named_if false q n names rest e =
    let joined = list_any-append (λ x. x == q) names (n.number ∷ []) in
    regrouped (is_declared q names) (n.number == q) rest (sym (ap (λ x. x || rest) joined) ∙ e)

-- a declared name is one of those that were declared
declared_among : (q : ℕ) (ns : List Name) (names : List ℕ) → is_declared q (with_names names ns) ≡ true
    → (is_declared q names || list_any (λ (n : Name). n.number == q) ns) ≡ true
declared_among q [] names e = widened (is_declared q names) false false (rw e refl)
declared_among q (n ∷ ns) names e =
    let rest = list_any (λ (x : Name). x.number == q) ns in
    named_if (is_declared n.number names) q n names rest (declared_among q ns (with_name names n) e)

no_index_if : (b : Bool) (k : ℕ) (rest : Bool) (o : Option ℕ) → (b || rest) ≡ false → (rest ≡ false → o ≡ None)
    → (if b then Some k else o) ≡ None
no_index_if true k rest o e later = absurd (cc)
no_index_if false k rest o e later = later e

no_index : (k q : ℕ) (names : List ℕ) → is_declared q names ≡ false → index_from k q names ≡ None
no_index k q [] e = refl
no_index k q (n ∷ names) e = no_index_if (n == q) k (is_declared q names) (index_from (k + 1) q names) e (no_index (k + 1) q names)

-- ---- What is read at a port

names_once : (m : AtomicTree) → atomic_refusals m ≡ [] → repeats E6 (map name_of_declaration m.declarations) ≡ []
names_once m e =
    let k = known_in m in
    let behind = standing_refusals m ++ (items_refusals k m ++ start_hold_refusals k m m.starts) in
    (both_nil (repeats E6 (map name_of_declaration m.declarations)) _ (both_nil (names_refusals m) behind e).0).0

not_entered : (m : AtomicTree) (q : ℕ) → declared_in (state_variables_in m.declarations) q ≡ None → entry_in (scope_of m).variables q ≡ None
unfolding first_of
not_entered m q none = with_variables_entry q (state_variables_in m.declarations) [] ∙ none

-- the name of an input port has no index among the state variables
pub port_indexless : (m : AtomicTree) (q : ℕ) → atomic_refusals m ≡ [] → is_declared q (scope_of m).inputs ≡ true
    → index_of q (names_of (scope_of m).variables) ≡ None
port_indexless m q none declared =
    let is = declared_among q (inputs_in m.declarations) [] declared in
    let unstored = apart q _ m.declarations (names_once m none) is in
    let entries = (scope_of m).variables in
    let undeclared = declared_entry entries q ∙ ap is_some (not_entered m q unstored) in
    no_index 0 q (names_of entries) undeclared

pub port_read : (m : AtomicTree) (q : ℕ) → atomic_refusals m ≡ [] → is_declared q (scope_of m).inputs ≡ true → ReadsPort (scope_of m) q
port_read m q none declared =
    let h = index_of_declared q (scope_of m).inputs declared in
    let indexless = port_indexless m q none declared in
    record {
      port = h.index;
      found = h.found;
      within = h.within;
      read = λ moment.
          ap (λ o. collection_between moment o (index_of q (scope_of m).inputs)) indexless
          ∙ ap (λ o. collection.Bag (bag_received moment.context.arrivals o)) h.found;
    }
