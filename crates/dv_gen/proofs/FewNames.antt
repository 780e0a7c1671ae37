-- The names of an accepted model: there are few of each kind, so that an index is small.
use Rattle.std.proofs.Common.{◌≡◌, ℕ, zero, suc, ◌+◌, ◌^◌, ◌<◌, ◌≤◌, Bool, true, false, if◌then◌else◌, List, [], ◌∷◌, ◌++◌}
use Rattle.std.proofs.Common.{length, slice_get, map, Option, Some, None, refl, sym, ◌∙◌, arith}
use Rattle.std.specs.Prelude.{IfSome}
use Rattle.std.proofs.lemmas.List.{length-append, length-map}
use Rattle.dv_lex.specs.declared.error.RefusalNumber.TheVariants.{E6}
use Rattle.dv_syntax.specs.Trees.{AtomicTree}
use Rattle.dv_syntax.specs.declared.tree.Name.{Name}
use Rattle.dv_syntax.specs.declared.tree.Declaration.{Declaration}
use Rattle.dv_syntax.specs.declared.tree.Declaration.TheVariants.{In, Out, Var, Flag, Held}
use Rattle.dv_syntax.specs.declared.tree.RuleSort.TheVariants as rule
use Rattle.dv_eval.specs.declared.scope.Domain.{Domain}
use Rattle.dv_eval.specs.Scope.{Scope, inputs_in, is_declared, names_of, outputs_in, phases_in, index_from, index_of, scope_of}
use Rattle.dv_eval.specs.Scope.{state_variables_in, with_name, with_names, with_variable, with_variables}
use Rattle.dv_check.specs.Limits.{greatest_names}
use Rattle.dv_check.specs.Names.{excess, excess_of, excess_past, repeats}
use Rattle.dv_check.specs.Rules.{atomic_refusals, name_of_declaration, name_of_state_variable, names_refusals, ports_in, ruled_phases}
use Rattle.dv_check.proofs.CheckedFiles.{both_nil}
use Rattle.dv_gen.specs.Emission.{HasFewNames}

-- ---- Indices

index_if : (b : Bool) (k : ℕ) (rest : Option ℕ) (end index : ℕ) → k < end → (rest ≡ Some index → index < end)
    → (if b then Some k else rest) ≡ Some index
    → index < end
index_if true k rest end index within later e = let same : k ≡ index = cc in omega arith
index_if false k rest end index within later e = later e

index_from-within : (k name : ℕ) (names : List ℕ) (index : ℕ) → index_from k name names ≡ Some index → index < k + length names
index_from-within k name [] index e = absurd (cc)
index_from-within k name (n ∷ names) index e =
    let later : index_from (k + 1) name names ≡ Some index → index < k + length (n ∷ names) =
    λ h. let within = index_from-within (k + 1) name names index h in omega arith in
    index_if _ k (index_from (k + 1) name names) (k + length (n ∷ names)) index (omega arith) later e

pub index_of-within : (name : ℕ) (names : List ℕ) (index : ℕ) → index_of name names ≡ Some index → index < length names
index_of-within name names index e = let within = index_from-within 0 name names index e in omega arith

-- an index among few names has 16 bits
small_if : (found : Option ℕ) (n : ℕ) → ((index : ℕ) → found ≡ Some index → index < n) → n ≤ greatest_names
    → IfSome found (λ index. index < 2 ^ 16)
small_if None n within few = tt
small_if (Some index) n within few = let h = within index refl in omega arith

pub index_of-small : (found : Option ℕ) (name : ℕ) (names : List ℕ) → found ≡ index_of name names → length names ≤ greatest_names
    → IfSome found (λ index. index < 2 ^ 16)
index_of-small found name names is few = small_if found (length names) (λ index h. index_of-within name names index (sym is ∙ h)) few

pub slot-small : (found : Option ℕ) (name : ℕ) (scope : Scope) → found ≡ index_of name (names_of scope.variables) → HasFewNames scope
    → IfSome found (λ index. index < 2 ^ 16)
slot-small found name scope is few =
    let as_many = length-map scope.variables (λ v. v.0) in
    index_of-small found name (names_of scope.variables) is (omega (arith, as_many, few.variables))

-- ---- The names of an accepted model

none_past : {A : Type 0} (xs : List A) (n : ℕ) → slice_get xs n ≡ None → length xs ≤ n
none_past [] n e = omega arith
none_past (x ∷ xs) zero e = absurd (cc)
none_past (x ∷ xs) (suc n) e = let rest = none_past xs n e in omega arith

excess_of-none : (o : Option Name) → excess_of o ≡ [] → o ≡ None
excess_of-none None e = refl
excess_of-none (Some n) e = absurd (cc)

-- a kind of which no name is refused as one too many
none_too_many : (names : List Name) → excess names ≡ [] → length names ≤ greatest_names
unfolding excess_past
none_too_many names e = none_past names greatest_names (excess_of-none (slice_get names greatest_names) e)

longer_if : {A : Type 0} (b : Bool) (names : List A) (n : A) → length (if b then names else names ++ n ∷ []) ≤ length names + 1
longer_if true names n = omega arith
longer_if false names n = omega (arith, length-append names (n ∷ []))

length-with_names : (more : List Name) (names : List ℕ) → length (with_names names more) ≤ length names + length more
length-with_names [] names = omega arith
length-with_names (n ∷ more) names =
    omega (arith, longer_if (is_declared n.number names) names n.number, length-with_names more (with_name names n))

length-with_variables : (more : List (Name × Domain)) (entries : List (ℕ × Domain))
    → length (with_variables entries more) ≤ length entries + length more
length-with_variables [] entries = omega arith
length-with_variables (v ∷ more) entries =
    omega (
      arith,
      longer_if (is_declared v.0.number (names_of entries)) entries (v.0.number, v.1),
      length-with_variables more (with_variable entries v),
    )

inputs_are_ports : (ds : List Declaration) → length (inputs_in ds) ≤ length (ports_in ds)
inputs_are_ports [] = omega arith
inputs_are_ports (In port ∷ ds) = omega (arith, inputs_are_ports ds)
inputs_are_ports (Out port ∷ ds) = omega (arith, inputs_are_ports ds)
inputs_are_ports (Var v ∷ ds) = inputs_are_ports ds
inputs_are_ports (Flag f ∷ ds) = inputs_are_ports ds
inputs_are_ports (Held c ∷ ds) = inputs_are_ports ds

outputs_are_ports : (ds : List Declaration) → length (outputs_in ds) ≤ length (ports_in ds)
outputs_are_ports [] = omega arith
outputs_are_ports (In port ∷ ds) = omega (arith, outputs_are_ports ds)
outputs_are_ports (Out port ∷ ds) = omega (arith, outputs_are_ports ds)
outputs_are_ports (Var v ∷ ds) = outputs_are_ports ds
outputs_are_ports (Flag f ∷ ds) = outputs_are_ports ds
outputs_are_ports (Held c ∷ ds) = outputs_are_ports ds

module _ (m : AtomicTree) where
  -- no kind of names is refused as too many
  few_from_excess : excess (ports_in m.declarations) ≡ [] → excess (map name_of_state_variable (state_variables_in m.declarations)) ≡ []
      → excess (phases_in m.phases) ≡ [] → HasFewNames (scope_of m)
  few_from_excess ports variables phases =
      let as_many = length-map (state_variables_in m.declarations) name_of_state_variable in
      let few_ports = none_too_many (ports_in m.declarations) ports in
      record {
        variables = omega (arith, length-with_variables (state_variables_in m.declarations) [], as_many, none_too_many _ variables);
        phases = omega (arith, length-with_names (phases_in m.phases) [], none_too_many (phases_in m.phases) phases);
        inputs = omega (arith, length-with_names (inputs_in m.declarations) [], inputs_are_ports m.declarations, few_ports);
        outputs = omega (arith, length-with_names (outputs_in m.declarations) [], outputs_are_ports m.declarations, few_ports);
      }

  pub accepted_names_are_few : atomic_refusals m ≡ [] → HasFewNames (scope_of m)
  accepted_names_are_few accepted =
      let names = (both_nil (names_refusals m) _ accepted).0 in
      let from_phases = (both_nil (repeats E6 (map name_of_declaration m.declarations)) _ names).1 in
      let from_outputs = (both_nil (repeats E6 (phases_in m.phases)) _ from_phases).1 in
      let from_internals = (both_nil (repeats E6 (ruled_phases rule.Output m.rules)) _ from_outputs).1 in
      let from_externals = (both_nil (repeats E6 (ruled_phases rule.Internal m.rules)) _ from_internals).1 in
      let from_confluents = (both_nil (repeats E6 (ruled_phases rule.External m.rules)) _ from_externals).1 in
      let limits = (both_nil (repeats E6 (ruled_phases rule.Confluent m.rules)) _ from_confluents).1 in
      let ports = both_nil (excess (ports_in m.declarations)) _ limits in
      let states = both_nil (excess (map name_of_state_variable (state_variables_in m.declarations))) _ ports.1 in
      few_from_excess ports.0 states.0 states.1
