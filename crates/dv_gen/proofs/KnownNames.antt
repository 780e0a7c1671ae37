-- What the names that are known in an accepted model stand for, by their indices.
use Rattle.std.proofs.Common.{◌≡◌, ℕ, ◌<◌, ◌==◌, Bool, true, false, if◌then◌else◌, List, [], ◌∷◌, length, refl, sym, ap, subst}
use Rattle.std.proofs.Common.{◌∙◌, Option, Some, None, option_map, arith}
use Rattle.std.specs.Prelude.{slice_get}
use Rattle.std.proofs.lemmas.Option.{slice_get-map}
use Rattle.dv_syntax.specs.Trees.{AtomicTree}
use Rattle.dv_syntax.specs.declared.tree.Name.{Name}
use Rattle.dv_syntax.specs.declared.tree.RuleSort.{RuleSort}
use Rattle.dv_eval.specs.Scope.{Scope, names_of, phases_in, index_of, scope_of}
use Rattle.dv_eval.specs.declared.scope.VariableRange.{VariableRange}
use Rattle.dv_eval.specs.declared.scope.Domain.{Domain}
use Rattle.dv_eval.specs.declared.scope.Domain.TheVariants as domain
use Rattle.dv_check.specs.declared.declarations.NameSort.{NameSort}
use Rattle.dv_check.specs.declared.declarations.NameSort.TheVariants.{Variable as ForVariable, Flag as ForFlag, Held as ForHeld}
use Rattle.dv_check.specs.declared.declarations.NameSort.TheVariants.{Input as ForInput, Output as ForOutput}
use Rattle.dv_check.specs.declared.declarations.NameSort.TheVariants.{LoopVariable as ForLoopVariable}
use Rattle.dv_check.specs.declared.wanted.Wanted.{Wanted}
use Rattle.dv_check.specs.Couplings.{is_input, is_output}
use Rattle.dv_bag.specs.Collections.{same_discipline}
use Rattle.dv_bag.specs.declared.discipline.Discipline.{Discipline}
use Rattle.dv_bag.specs.declared.discipline.Discipline.TheVariants as discipline
use Rattle.dv_bag.specs.declared.value.ValueType.{ValueType}
use Rattle.dv_bag.specs.declared.value.ValueType.TheVariants.{Number, Truth}
use Rattle.dv_bag.proofs.Collections.{disciplines_same}
use Rattle.dv_check.specs.Rules.{assignment_refusals, atomic_refusals, changed_refusals, is_output_rule, known_in}
use Rattle.dv_check.specs.Rules.{known_in_loop, known_in_rule, sent_port_refusals, sort_in}
use Rattle.dv_check.specs.Types.{Known, is_readable, sees_inputs, suits, suits_port, type_of_name}
use Rattle.dv_check.proofs.CheckedFiles.{not_false, not_refused}
use Rattle.dv_check.proofs.Declared.{input_declared, output_declared}
use Rattle.law_accepted.specs.Fitting.{domain_named, domain_at as domain_of_index}
use Rattle.law_accepted.proofs.Fitting.{HasIndex, among_declared, both_true, index_of_declared}
use Rattle.law_accepted.proofs.Inputs.{port_indexless}
use Rattle.law_accepted.proofs.Known.{is_of_loop, is_stored, of_no_loop, sort_named, sort_of_domain}
use Rattle.dv_code.specs.declared.instruction.Source.TheVariants.{Own, Port}
use Rattle.dv_code.specs.declared.instruction.Leaf.TheVariants as leaf
use Rattle.dv_code.specs.declared.instruction.Action.TheVariants as action
use Rattle.dv_gen.specs.Resolution.{assignment_at, leaf_of, loop_of, slot_of, source_of, tables_of}

-- ---- What a name stands for

-- the name has an index among the state variables, with this domain
pub record HasDomain (scope : Scope) (q : ℕ) (d : Domain) : Type 0 where
  pub index : ℕ
  pub found : index_of q (names_of scope.variables) ≡ Some index
  pub name : ℕ
  pub there : slice_get scope.variables index ≡ Some (name, d)

-- a variable that no loop around hides
pub record StandsForVariable (scope : Scope) (loops : List ℕ) (q : ℕ) : Type 0 where
  pub outside : loop_of q loops ≡ None
  pub range : VariableRange
  pub has : HasDomain scope q (domain.Number range)

-- a flag that no loop around hides
pub record StandsForFlag (scope : Scope) (loops : List ℕ) (q : ℕ) : Type 0 where
  pub outside : loop_of q loops ≡ None
  pub start : Bool
  pub has : HasDomain scope q (domain.Flag start)

-- a bag, or a queue
pub record StandsForHeld (scope : Scope) (d : Discipline) (q : ℕ) : Type 0 where
  pub capacity : ℕ
  pub has : HasDomain scope q (domain.Held d capacity)

pub record StandsForInput (scope : Scope) (q : ℕ) : Type 0 where
  pub indexless : index_of q (names_of scope.variables) ≡ None
  pub port : HasIndex q scope.inputs

pub record StandsForLoop (loops : List ℕ) (q : ℕ) : Type 0 where
  pub loop : ℕ
  pub found : loop_of q loops ≡ Some loop
  pub within : loop < length loops

-- what a name of a sort stands for, in loops of these variables
abbrev pub Stands : Scope → List ℕ → ℕ → Option NameSort → Type 0
Stands scope loops q None = Unit {0}
Stands scope loops q (Some ForVariable) = StandsForVariable scope loops q
Stands scope loops q (Some ForFlag) = StandsForFlag scope loops q
Stands scope loops q (Some (ForHeld d)) = StandsForHeld scope d q
Stands scope loops q (Some ForInput) = StandsForInput scope q
Stands scope loops q (Some ForOutput) = HasIndex q scope.outputs
Stands scope loops q (Some ForLoopVariable) = StandsForLoop loops q

-- all that is known in a rule, in loops of these variables, stands for something
pub record Knows (scope : Scope) (rule : Option RuleSort) (loops : List ℕ) (known : Known) : Type 0 where
  pub rule_is : known.rule ≡ rule
  pub name : (q : ℕ) → Stands scope loops q (known.sort q)
  pub phase : (q : ℕ) → known.has_phase q ≡ true → HasIndex q scope.phases

-- ---- Domains by index

domain_there : (o : Option (ℕ × Domain)) (d : Domain) → option_map (λ v. v.1) o ≡ Some d → (name : ℕ) × (o ≡ Some (name, d))
domain_there None d is = absurd (cc)
domain_there (Some v) d is =
    let same : v.1 ≡ d = cc in
    (v.0, ap (λ x. Some (v.0, x)) same)

domain_at_index : (scope : Scope) (q : ℕ) (d : Domain) (o : Option ℕ) → index_of q (names_of scope.variables) ≡ o
    → domain_of_index scope.variables o ≡ Some d → HasDomain scope q d
domain_at_index scope q d None found is = absurd (cc)
domain_at_index scope q d (Some index) found is =
    let entry = domain_there (slice_get scope.variables index) d is in
    record { index = index; found = found; name = entry.0; there = entry.1 }

pub has_domain : (scope : Scope) (q : ℕ) (d : Domain) → domain_named scope q ≡ Some d → HasDomain scope q d
has_domain scope q d is = domain_at_index scope q d (index_of q (names_of scope.variables)) refl is

-- the slot at the index of a name
pub slot_there : (scope : Scope) (q : ℕ) (d : Domain) (has : HasDomain scope q d)
    → slice_get (tables_of scope).slots has.index ≡ Some (slot_of d)
slot_there scope q d has =
    slice_get-map (λ (v : ℕ × Domain). slot_of v.1) scope.variables has.index ∙ ap (option_map (λ (v : ℕ × Domain). slot_of v.1)) has.there

-- ---- Leaves, sources and actions by index

-- a variable that no loop hides is read at its index, and so is a flag
pub variable_leaf : (scope : Scope) (loops : List ℕ) (q : ℕ) (stands : StandsForVariable scope loops q)
    → leaf_of scope loops q ≡ leaf.Variable stands.has.index
variable_leaf scope loops q stands = rw (stands.outside, stands.has.found, stands.has.there) refl

pub flag_leaf : (scope : Scope) (loops : List ℕ) (q : ℕ) (stands : StandsForFlag scope loops q)
    → leaf_of scope loops q ≡ leaf.Flag stands.has.index
flag_leaf scope loops q stands = rw (stands.outside, stands.has.found, stands.has.there) refl

pub item_leaf : (scope : Scope) (loops : List ℕ) (q : ℕ) (stands : StandsForLoop loops q)
    → leaf_of scope loops q ≡ leaf.Item stands.loop
item_leaf scope loops q stands = rw stands.found refl

-- what an assignment to a variable, and to a flag, is
pub variable_assignment : (scope : Scope) (loops : List ℕ) (q : ℕ) (stands : StandsForVariable scope loops q)
    → assignment_at scope (index_of q (names_of scope.variables)) ≡ action.SetVariable stands.has.index
variable_assignment scope loops q stands = rw (stands.has.found, stands.has.there) refl

pub flag_assignment : (scope : Scope) (loops : List ℕ) (q : ℕ) (stands : StandsForFlag scope loops q)
    → assignment_at scope (index_of q (names_of scope.variables)) ≡ action.SetFlag stands.has.index
flag_assignment scope loops q stands = rw (stands.has.found, stands.has.there) refl

-- where a collection is read
pub own_source : (scope : Scope) (d : Discipline) (q : ℕ) (stands : StandsForHeld scope d q) → source_of scope q ≡ Own d stands.has.index
own_source scope d q stands = rw (stands.has.found, stands.has.there) refl

pub port_source : (scope : Scope) (q : ℕ) (stands : StandsForInput scope q) → source_of scope q ≡ Port stands.port.index
port_source scope q stands = rw (stands.indexless, stands.port.found) refl

-- ---- Outside of all loops

domain_stands : (scope : Scope) (q : ℕ) (d : Domain) → domain_named scope q ≡ Some d → Stands scope [] q (Some (sort_of_domain d))
domain_stands scope q (domain.Number range) is =
    record { outside = refl; range = range; has = has_domain scope q (domain.Number range) is }
domain_stands scope q (domain.Flag start) is =
    record { outside = refl; start = start; has = has_domain scope q (domain.Flag start) is }
domain_stands scope q (domain.Held d capacity) is = record { capacity = capacity; has = has_domain scope q (domain.Held d capacity) is }

module _ (m : AtomicTree) (none : atomic_refusals m ≡ []) where
  stored_stands : (q : ℕ) (o : NameSort) → sort_in m.declarations q ≡ Some o → is_stored (Some o) ≡ true
      → Stands (scope_of m) [] q (Some o)
  stored_stands q o sort stored =
      let named = sort_named m q (ap is_stored sort ∙ stored) in
      subst (Stands (scope_of m) [] q) (named.2 ∙ sort) (domain_stands (scope_of m) q named.0 named.1)

  stands_outside_as : (q : ℕ) (o : Option NameSort) → sort_in m.declarations q ≡ o → Stands (scope_of m) [] q o
  stands_outside_as q None sort = tt
  stands_outside_as q (Some ForVariable) sort = stored_stands q ForVariable sort refl
  stands_outside_as q (Some ForFlag) sort = stored_stands q ForFlag sort refl
  stands_outside_as q (Some (ForHeld d)) sort = stored_stands q (ForHeld d) sort refl
  stands_outside_as q (Some ForInput) sort =
      let declared = input_declared q m.declarations [] (ap is_input sort) in
      record { indexless = port_indexless m q none declared; port = index_of_declared q (scope_of m).inputs declared }
  stands_outside_as q (Some ForOutput) sort =
      index_of_declared q (scope_of m).outputs (output_declared q m.declarations [] (ap is_output sort))
  stands_outside_as q (Some ForLoopVariable) sort =
      let both : false ≡ true = sym (of_no_loop q m.declarations) ∙ ap is_of_loop sort in
      absurd (cc)

  pub knows_outside : (rule : Option RuleSort) → Knows (scope_of m) rule [] (known_in_rule rule (known_in m))
  knows_outside rule = record {
    rule_is = refl;
    name = λ q. stands_outside_as q (sort_in m.declarations q) refl;
    phase = λ q has. index_of_declared q (scope_of m).phases (among_declared q (phases_in m.phases) has);
  }

-- ---- In the block of one loop more

stands_behind : (scope : Scope) (loops : List ℕ) (v q : ℕ) (o : Option NameSort) → (v == q) ≡ false → Stands scope loops q o
    → Stands scope (v ∷ loops) q o
stands_behind scope loops v q None other stands = tt
stands_behind scope loops v q (Some ForVariable) other stands =
    record { outside = rw other stands.outside; range = stands.range; has = stands.has }
stands_behind scope loops v q (Some ForFlag) other stands =
    record { outside = rw other stands.outside; start = stands.start; has = stands.has }
stands_behind scope loops v q (Some (ForHeld d)) other stands = stands
stands_behind scope loops v q (Some ForInput) other stands = stands
stands_behind scope loops v q (Some ForOutput) other stands = stands
stands_behind scope loops v q (Some ForLoopVariable) other stands =
    record { loop = stands.loop; found = rw other stands.found; within = omega (arith, stands.within) }

stands_inside : (b : Bool) (scope : Scope) (loops : List ℕ) (v q : ℕ) (o : Option NameSort) → (v == q) ≡ b → Stands scope loops q o
    → Stands scope (v ∷ loops) q (if b then Some ForLoopVariable else o)
stands_inside true scope loops v q o same stands =
    record { loop = length loops; found = rw same refl; within = omega arith }
stands_inside false scope loops v q o other stands = stands_behind scope loops v q o other stands

pub knows_inside : (scope : Scope) (rule : Option RuleSort) (loops : List ℕ) (known : Known) (v : Name) → Knows scope rule loops known
    → Knows scope rule (v.number ∷ loops) (known_in_loop v known)
knows_inside scope rule loops known v knows = record {
  rule_is = knows.rule_is;
  name = λ q. stands_inside (v.number == q) scope loops v.number q (known.sort q) refl (knows.name q);
  phase = knows.phase;
}

-- ---- What accepted names stand for

-- what can be read where this is wanted: a collection of the state, or where inputs are seen what has arrived at a port
pub data Readable (scope : Scope) (w : Wanted) (rule : Option RuleSort) (q : ℕ) : Type 0 where
  OfState : (d : Discipline) (stands : StandsForHeld scope d q) (suited : suits w d ≡ true) → Readable scope w rule q
  InputPort : (stands : StandsForInput scope q) (suited : suits_port w ≡ true) (seen : sees_inputs rule ≡ true)
      → Readable scope w rule q

-- what is assigned: a variable or a flag
pub data Assigned (scope : Scope) (loops : List ℕ) (q : ℕ) : Option NameSort → Type 0 where
  ToVariable : (stands : StandsForVariable scope loops q) → Assigned scope loops q (Some ForVariable)
  ToFlag : (stands : StandsForFlag scope loops q) → Assigned scope loops q (Some ForFlag)

module _ (scope : Scope) (loops : List ℕ) (q : ℕ) where
  readable_stands : (w : Wanted) (rule : Option RuleSort) (o : Option NameSort) → Stands scope loops q o → is_readable w rule o ≡ true
      → Readable scope w rule q
  readable_stands w rule None stands is = absurd (cc)
  readable_stands w rule (Some ForVariable) stands is = absurd (cc)
  readable_stands w rule (Some ForFlag) stands is = absurd (cc)
  readable_stands w rule (Some (ForHeld d)) stands is = OfState d stands is
  readable_stands w rule (Some ForInput) stands is =
      let both = both_true (suits_port w) (sees_inputs rule) is in
      InputPort stands both.0 both.1
  readable_stands w rule (Some ForOutput) stands is = absurd (cc)
  readable_stands w rule (Some ForLoopVariable) stands is = absurd (cc)

  pub assigned_stands : (rule : Option RuleSort) (o : Option NameSort) (offset : ℕ) → Stands scope loops q o
      → assignment_refusals rule o offset ≡ [] → Assigned scope loops q o × (is_output_rule rule ≡ false)
  assigned_stands rule None offset stands none = absurd (cc)
  assigned_stands rule (Some ForVariable) offset stands none = (ToVariable stands, not_refused _ _ _ none)
  assigned_stands rule (Some ForFlag) offset stands none = (ToFlag stands, not_refused _ _ _ none)
  assigned_stands rule (Some (ForHeld d)) offset stands none = absurd (cc)
  assigned_stands rule (Some ForInput) offset stands none = absurd (cc)
  assigned_stands rule (Some ForOutput) offset stands none = absurd (cc)
  assigned_stands rule (Some ForLoopVariable) offset stands none = absurd (cc)

  -- its type is that which is wanted of the value
  pub assigned_type : {o : Option NameSort} → Assigned scope loops q o → (t : ValueType) × (type_of_name o ≡ Some t)
  assigned_type (ToVariable stands) = (Number, refl)
  assigned_type (ToFlag stands) = (Truth, refl)

  pub changed_stands : (d : Discipline) (o : Option NameSort) (offset : ℕ) → Stands scope loops q o → changed_refusals d o offset ≡ []
      → StandsForHeld scope d q
  changed_stands d None offset stands none = absurd (cc)
  changed_stands d (Some ForVariable) offset stands none = absurd (cc)
  changed_stands d (Some ForFlag) offset stands none = absurd (cc)
  changed_stands d (Some (ForHeld other)) offset stands none =
      subst (λ (x : Discipline). StandsForHeld scope x q) (disciplines_same other d (not_false _ (not_refused _ _ _ none))) stands
  changed_stands d (Some ForInput) offset stands none = absurd (cc)
  changed_stands d (Some ForOutput) offset stands none = absurd (cc)
  changed_stands d (Some ForLoopVariable) offset stands none = absurd (cc)

  pub sent_port_stands : (o : Option NameSort) (offset : ℕ) → Stands scope loops q o → sent_port_refusals o offset ≡ []
      → HasIndex q scope.outputs
  sent_port_stands None offset stands none = absurd (cc)
  sent_port_stands (Some ForVariable) offset stands none = absurd (cc)
  sent_port_stands (Some ForFlag) offset stands none = absurd (cc)
  sent_port_stands (Some (ForHeld d)) offset stands none = absurd (cc)
  sent_port_stands (Some ForInput) offset stands none = absurd (cc)
  sent_port_stands (Some ForOutput) offset stands none = stands
  sent_port_stands (Some ForLoopVariable) offset stands none = absurd (cc)

pub known_readable : (scope : Scope) (rule : Option RuleSort) (loops : List ℕ) (known : Known) → Knows scope rule loops known
    → (w : Wanted) (q : ℕ) → is_readable w known.rule (known.sort q) ≡ true → Readable scope w rule q
known_readable scope rule loops known knows w q is =
    let seen = ap (λ r. is_readable w r (known.sort q)) (sym knows.rule_is) ∙ is in
    readable_stands scope loops q w rule (known.sort q) (knows.name q) seen
