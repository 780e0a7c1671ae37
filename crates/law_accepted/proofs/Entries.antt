-- The entries of a scope, each a name with what it may hold: of a name the first declaration counts, and stands at its index.
use Rattle.std.proofs.Common.{◌≡◌, ℕ, suc, ◌+◌, ◌==◌, Bool, true, false, ◌||◌, if◌then◌else◌, List, [], ◌∷◌, ◌++◌, refl, sym, ap}
use Rattle.std.proofs.Common.{◌∙◌, Option, Some, None, is_some, option_map, arith}
use Rattle.std.specs.Prelude.{slice_get}
use Rattle.std.specs.Option.{option_or}
use Rattle.dv_syntax.specs.declared.tree.Name.{Name}
use Rattle.dv_eval.specs.declared.scope.Domain.{Domain}
use Rattle.dv_eval.specs.Scope.{Scope, is_declared, names_of, index_from, with_variable, with_variables}
use Rattle.dv_check.specs.Names.{first_of}
use Rattle.dv_check.specs.Rules.{domain_of_state_variable, number_of_state_variable}
use Rattle.law_accepted.specs.Fitting.{domain_at, domain_named}
use Rattle.dv_check.proofs.Declared.{same_declared}
use Rattle.dv_check.proofs.Firsts.{first_of_push}

-- what the first entry of a name may hold
abbrev pub entry_in : List (ℕ × Domain) → ℕ → Option Domain
entry_in entries q = first_of (λ (e : ℕ × Domain). e.0) (λ (e : ℕ × Domain). e.1) entries q

-- what the first declaration of a name says that its state variable may hold
abbrev pub declared_in : List (Name × Domain) → ℕ → Option Domain
declared_in vs q = first_of number_of_state_variable domain_of_state_variable vs q

or_none : {A : Type 0} (o : Option A) → o ≡ option_or o None
or_none None = refl
or_none (Some x) = refl

or_some : {A : Type 0} (o p : Option A) → is_some o ≡ true → o ≡ option_or o p
or_some None p e = absurd (cc)
or_some (Some x) p e = refl

or_step : {A : Type 0} (o p : Option A) (b : Bool) (x : A)
    → option_or (option_or o (if b then Some x else None)) p ≡ option_or o (if b then Some x else p)
or_step (Some y) p b x = refl
or_step None p true x = refl
or_step None p false x = refl

-- a name is declared where it has an entry
declared_if : (b : Bool) (d : Domain) (o : Option Domain) (rest : Bool) → rest ≡ is_some o → (b || rest) ≡ is_some (if b then Some d else o)
declared_if true d o rest e = refl
declared_if false d o rest e = e

pub declared_entry : (entries : List (ℕ × Domain)) (q : ℕ) → is_declared q (names_of entries) ≡ is_some (entry_in entries q)
unfolding first_of
declared_entry [] q = refl
declared_entry (e ∷ entries) q =
    declared_if (e.0 == q) e.1 (entry_in entries q) (is_declared q (names_of entries)) (declared_entry entries q)

-- a name that is declared already keeps its entry
kept_if : (b : Bool) (q n : ℕ) (d : Domain) (entries : List (ℕ × Domain)) → (n == q) ≡ b → is_declared n (names_of entries) ≡ true
    → entry_in entries q ≡ option_or (entry_in entries q) (if b then Some d else None)
kept_if true q n d entries same there =
    or_some (entry_in entries q) (Some d) (sym (declared_entry entries q) ∙ same_declared q n (names_of entries) same there)
kept_if false q n d entries other there = or_none (entry_in entries q)

-- one entry more
with_variable_entry_if : (b : Bool) (q : ℕ) (v : Name × Domain) (entries : List (ℕ × Domain))
    → is_declared v.0.number (names_of entries) ≡ b
    → entry_in (if b then entries else entries ++ (v.0.number, v.1) ∷ []) q
    ≡ option_or (entry_in entries q) (if v.0.number == q then Some v.1 else None)
with_variable_entry_if true q v entries there = kept_if (v.0.number == q) q v.0.number v.1 entries refl there
with_variable_entry_if false q v entries new = first_of_push (λ (e : ℕ × Domain). e.0) (λ (e : ℕ × Domain). e.1) entries (v.0.number, v.1) q

-- the entries are the first declarations
pub with_variables_entry : (q : ℕ) (vs : List (Name × Domain)) (entries : List (ℕ × Domain))
    → entry_in (with_variables entries vs) q ≡ option_or (entry_in entries q) (declared_in vs q)
unfolding first_of
with_variables_entry q [] entries = or_none (entry_in entries q)
with_variables_entry q (v ∷ vs) entries =
    with_variables_entry q vs (with_variable entries v)
    ∙ (ap (λ o. option_or o (declared_in vs q)) (with_variable_entry_if (is_declared v.0.number (names_of entries)) q v entries refl)
    ∙ or_step (entry_in entries q) (declared_in vs q) (v.0.number == q) v.1)

-- ---- What entries say

-- the index of an entry, from a number on
record HasEntry (k q : ℕ) (entries : List (ℕ × Domain)) (d : Domain) : Type 0 where
  offset : ℕ
  found : index_from k q (names_of entries) ≡ Some (k + offset)
  there : option_map (λ v. v.1) (slice_get entries offset) ≡ Some d

has_entry_if : (b : Bool) (k q : ℕ) (e : ℕ × Domain) (entries : List (ℕ × Domain)) (d : Domain) → (e.0 == q) ≡ b
    → (if b then Some e.1 else entry_in entries q) ≡ Some d → (entry_in entries q ≡ Some d → HasEntry (k + 1) q entries d)
    → HasEntry k q (e ∷ entries) d
has_entry_if true k q e entries d test is later =
    let here : k ≡ k + 0 = omega arith in
    record { offset = 0; found = rw test (ap (λ n. Some n) here); there = is }
has_entry_if false k q e entries d test is later =
    let h = later is in
    let next : k + 1 + h.offset ≡ k + suc h.offset = omega arith in
    record { offset = suc h.offset; found = rw test (h.found ∙ ap (λ n. Some n) next); there = h.there }

has_entry : (k q : ℕ) (entries : List (ℕ × Domain)) (d : Domain) → entry_in entries q ≡ Some d → HasEntry k q entries d
unfolding first_of
has_entry k q [] d is = absurd (cc)
has_entry k q (e ∷ entries) d is = has_entry_if (e.0 == q) k q e entries d refl is (has_entry (k + 1) q entries d)

pub domain_entered : (scope : Scope) (q : ℕ) (d : Domain) → entry_in scope.variables q ≡ Some d → domain_named scope q ≡ Some d
domain_entered scope q d is =
    let h = has_entry 0 q scope.variables d is in
    let at_start : 0 + h.offset ≡ h.offset = omega arith in
    ap (domain_at scope.variables) (h.found ∙ ap (λ n. Some n) at_start) ∙ h.there
