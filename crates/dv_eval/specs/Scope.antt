-- What an atomic model declares.
use Rattle.std.specs.Prelude.{ℕ, ℤ, ◌+◌, ◌==◌, Bool, true, false, ◌&&◌, unwrap_or, slice_index, if◌then◌else◌, List, [], ◌∷◌}
use Rattle.std.specs.Prelude.{◌++◌, map, filter_map, Option, Some, None, pos, neg_ℤ}
use Rattle.std.specs.List.{list_any, flat_map}
use Rattle.dv_syntax.specs.Trees.{PhasesTree, HoldTree, RuleTree, AtomicTree, Expression, Statements, Done, ticks_of}
use Rattle.dv_syntax.specs.declared.tree.Name.{Name}
use Rattle.dv_syntax.specs.declared.tree.Bound.{Bound}
use Rattle.dv_syntax.specs.declared.tree.Variable.{Variable}
use Rattle.dv_syntax.specs.declared.tree.Declaration.{Declaration}
use Rattle.dv_syntax.specs.declared.tree.Declaration.TheVariants.{In, Out, Var, Flag, Held}
use Rattle.dv_syntax.specs.declared.tree.Start.{Start}
use Rattle.dv_syntax.specs.declared.tree.Ticks.{Ticks}
use Rattle.dv_syntax.specs.declared.tree.RuleSort.{RuleSort}
use Rattle.dv_syntax.specs.declared.tree.RuleSort.TheVariants.{Output, Internal, External, Confluent}
use Rattle.dv_bag.specs.Collections.{empty_of}
use Rattle.dv_bag.specs.declared.state.State.{State}
use Rattle.dv_bag.specs.declared.state.Datum.{Datum}
use Rattle.dv_bag.specs.declared.state.Datum.TheVariants as datum
use Rattle.dv_eval.specs.declared.scope.VariableRange.{VariableRange}
use Rattle.dv_eval.specs.declared.scope.Domain.{Domain}
use Rattle.dv_eval.specs.declared.scope.Domain.TheVariants as domain

-- variables, flags, bags and queues with their domains, phases and ports, each in the order of declaration
pub record Scope : Type 0 where
  pub variables : List (ℕ × Domain)
  pub phases : List ℕ
  pub inputs : List ℕ
  pub outputs : List ℕ

-- the input port that a declaration declares
abbrev pub input_of : Declaration → Option Name
input_of (In port) = Some port
input_of (Out port) = None
input_of (Var v) = None
input_of (Flag f) = None
input_of (Held c) = None

-- the output port that it declares
abbrev pub output_of : Declaration → Option Name
output_of (In port) = None
output_of (Out port) = Some port
output_of (Var v) = None
output_of (Flag f) = None
output_of (Held c) = None

abbrev pub inputs_in : List Declaration → List Name
inputs_in declarations = filter_map input_of declarations

abbrev pub outputs_in : List Declaration → List Name
outputs_in declarations = filter_map output_of declarations

-- the phases of all items of phases
abbrev pub phases_in : List PhasesTree → List Name
phases_in items = flat_map (λ p. p.names) items

-- the index of a name in a list of names
abbrev pub index_from : ℕ → ℕ → List ℕ → Option ℕ
index_from k name [] = None
index_from k name (n ∷ names) = if n == name then Some k else index_from (k + 1) name names

abbrev pub index_of : ℕ → List ℕ → Option ℕ
index_of name names = index_from 0 name names

abbrev pub names_of : {A : Type 0} → List (ℕ × A) → List ℕ
names_of entries = map (λ e. e.0) entries

abbrev pub is_declared : ℕ → List ℕ → Bool
is_declared name names = list_any (λ n. n == name) names

-- one more name, if it is new
abbrev pub with_name : List ℕ → Name → List ℕ
with_name names name = if is_declared name.number names then names else names ++ name.number ∷ []

abbrev pub with_names : List ℕ → List Name → List ℕ
with_names names [] = names
with_names names (n ∷ more) = with_names (with_name names n) more

-- a magnitude with its sign
abbrev pub signed : Option ℕ → ℕ → ℤ
signed None n = pos n
signed (Some index) n = neg_ℤ (pos n)

abbrev pub bound_value : Bound → ℤ
bound_value b = signed b.minus b.magnitude.value

abbrev pub range_of : Variable → VariableRange
range_of v = record { low = bound_value v.low; high = bound_value v.high; start = bound_value v.start }

-- the name and the domain of the state variable that a declaration declares: a variable, a flag, a bag or a queue
abbrev pub state_variable_of : Declaration → Option (Name × Domain)
state_variable_of (In port) = None
state_variable_of (Out port) = None
state_variable_of (Var v) = Some (v.name, domain.Number (range_of v))
state_variable_of (Flag f) = Some (f.name, domain.Flag f.start)
state_variable_of (Held c) = Some (c.name, domain.Held c.discipline c.capacity.value)

abbrev pub state_variables_in : List Declaration → List (Name × Domain)
state_variables_in declarations = filter_map state_variable_of declarations

abbrev pub with_variable : List (ℕ × Domain) → Name × Domain → List (ℕ × Domain)
with_variable entries v = if is_declared v.0.number (names_of entries) then entries else entries ++ (v.0.number, v.1) ∷ []

abbrev pub with_variables : List (ℕ × Domain) → List (Name × Domain) → List (ℕ × Domain)
with_variables entries [] = entries
with_variables entries (v ∷ more) = with_variables (with_variable entries v) more

-- what a model declares: if a name is declared twice, the first declaration counts
abbrev pub scope_of : AtomicTree → Scope
scope_of m = record {
  variables = with_variables [] (state_variables_in m.declarations);
  phases = with_names [] (phases_in m.phases);
  inputs = with_names [] (inputs_in m.declarations);
  outputs = with_names [] (outputs_in m.declarations);
}

abbrev pub nothing_declared : Scope
nothing_declared = record { variables = []; phases = []; inputs = []; outputs = [] }

abbrev pub same_sort : RuleSort → RuleSort → Bool
same_sort Output Output = true
same_sort Internal Internal = true
same_sort External External = true
same_sort Confluent Confluent = true
same_sort a b = false

-- the value of a state variable at the start; a bag or a queue is empty
abbrev pub start_datum : Domain → Datum
start_datum (domain.Number range) = datum.Number range.start
start_datum (domain.Flag start) = datum.Flag start
start_datum (domain.Held d capacity) = datum.Held (empty_of d)

abbrev pub start_data : List (ℕ × Domain) → List Datum
start_data entries = map (λ e. start_datum e.1) entries

-- the index of the phase that the first start item names
abbrev pub start_phase : Scope → List Start → ℕ
start_phase scope [] = 0
start_phase scope (s ∷ starts) = unwrap_or (index_of s.phase.number scope.phases) 0

-- the start state of a component
abbrev pub start_state : AtomicTree → State
start_state m = record { phase = start_phase (scope_of m) m.starts; variables = start_data (scope_of m).variables }

-- the statements of the first rule of a sort for a phase, if there is one
abbrev pub rule_of : RuleSort → ℕ → List RuleTree → Option Statements
rule_of sort phase [] = None
rule_of sort phase (r ∷ rules) = if same_sort r.sort sort && (r.phase.number == phase) then Some r.body else rule_of sort phase rules

-- the statements of the first rule of a sort for a phase; a missing rule is empty
abbrev pub rule_body : RuleSort → ℕ → List RuleTree → Statements
rule_body sort phase rules = unwrap_or (rule_of sort phase rules) Done

-- the first hold of a phase; a missing one is forever
abbrev pub hold_ticks : ℕ → List HoldTree → Option Expression
hold_ticks phase [] = None
hold_ticks phase (h ∷ holds) = if h.phase.number == phase then h.ticks else hold_ticks phase holds

-- the ticks of a hold of the code, if there is one
abbrev pub ticks_found : Option Ticks → Option Expression
ticks_found None = None
ticks_found (Some ticks) = ticks_of ticks

-- the name of the phase at an index
abbrev pub phase_name : Scope → ℕ → ℕ
phase_name scope index = slice_index scope.phases index
