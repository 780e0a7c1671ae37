-- States that fit a model: those that a model can reach. In such a state the meaning of what is accepted never uses an unknown name, nor a
-- truth value as a number.
use Rattle.std.specs.Prelude.{◌≡◌, ℕ, ℤ, ◌<◌, Bool, true, false, not, ◌&&◌, ◌||◌, nat_lt, nat_le, slice_get, List, [], ◌∷◌}
use Rattle.std.specs.Prelude.{length, option_map, Option, Some, None}
use Rattle.dv_syntax.specs.declared.tree.Name.{Name}
use Rattle.dv_syntax.specs.Trees.{AtomicTree, Expression, Literal, TruthValue, Named, Parens, Prefixed, Binary, Call, Elapsed}
use Rattle.dv_syntax.specs.Trees.{Times, Statements, Done, Assign, Does, Send, If, IfElse, For, Changes}
use Rattle.dv_syntax.specs.declared.tree.Command.{Command}
use Rattle.dv_syntax.specs.declared.tree.Command.TheVariants as command
use Rattle.dv_syntax.specs.declared.tree.RuleSort.{RuleSort}
use Rattle.dv_bag.specs.Bag.{bag_at}
use Rattle.dv_bag.specs.Collections.{count_in, discipline_of, discipline_of_change, same_discipline}
use Rattle.dv_bag.specs.Limits.{greatest_count}
use Rattle.dv_bag.specs.declared.collection.Collection.TheVariants as collection
use Rattle.dv_bag.specs.declared.discipline.Discipline.{Discipline}
use Rattle.dv_bag.specs.declared.discipline.Discipline.TheVariants as discipline
use Rattle.dv_bag.specs.declared.value.Value.{Value}
use Rattle.dv_bag.specs.declared.value.Value.TheVariants as value
use Rattle.dv_bag.specs.declared.state.Datum.{Datum}
use Rattle.dv_bag.specs.declared.state.Datum.TheVariants as datum
use Rattle.dv_bag.specs.declared.state.State.{State}
use Rattle.dv_eval.specs.declared.scope.Domain.{Domain}
use Rattle.dv_eval.specs.declared.scope.Domain.TheVariants as domain
use Rattle.dv_eval.specs.Scope.{Scope, is_declared, names_of, index_of, scope_of}
use Rattle.dv_bag.specs.Arrivals.{Arrivals}
use Rattle.dv_bag.specs.Effects.{is_within}
use Rattle.dv_eval.specs.Meaning.{Context, Moment, collection_of_name}
use Rattle.dv_bag.specs.declared.value.ValueType.{ValueType}
use Rattle.dv_bag.specs.declared.value.ValueType.TheVariants.{Number, Truth}
use Rattle.dv_check.specs.declared.wanted.Wanted.{Wanted}
use Rattle.dv_check.specs.declared.wanted.Wanted.TheVariants as wanted
use Rattle.dv_check.specs.Types.{Known, knows_elapsed, sees_inputs, suits, suits_port, wanted_by}
use Rattle.dv_check.specs.Rules.{known_in_loop}

-- a number within the range of its variable, a truth value for a flag, for a bag a bag and for a queue a queue with no more values than its
-- capacity, which is no greater than the greatest
abbrev pub datum_fits : Domain → Datum → Bool
datum_fits (domain.Number range) (datum.Number n) = is_within range.low range.high n
datum_fits (domain.Number range) (datum.Flag b) = false
datum_fits (domain.Number range) (datum.Held c) = false
datum_fits (domain.Flag start) (datum.Number n) = false
datum_fits (domain.Flag start) (datum.Flag b) = true
datum_fits (domain.Flag start) (datum.Held c) = false
datum_fits (domain.Held d capacity) (datum.Number n) = false
datum_fits (domain.Held d capacity) (datum.Flag b) = false
datum_fits (domain.Held d capacity) (datum.Held c) =
    same_discipline d (discipline_of c) && (nat_le (count_in c) capacity && nat_le capacity greatest_count)

-- one datum for each variable, flag, bag and queue
abbrev pub data_fit : List (ℕ × Domain) → List Datum → Bool
data_fit [] [] = true
data_fit (v ∷ variables) (d ∷ ds) = datum_fits v.1 d && data_fit variables ds
data_fit [] (d ∷ ds) = false
data_fit (v ∷ variables) [] = false

-- a phase of the model, and for each variable a number within its range, for each flag a truth value, for each bag or queue one
-- within its capacity
abbrev pub fits_in : Scope → State → Bool
fits_in scope s = nat_lt s.phase (length scope.phases) && data_fit scope.variables s.variables

abbrev pub fits : AtomicTree → State → Bool
fits m s = fits_in (scope_of m) s

-- the state in another phase
abbrev pub in_phase : State → ℕ → State
in_phase s index = record { phase = index; variables = s.variables }

-- a goto, if there is one, that leads to a phase of the model
abbrev pub LeadsToPhase : Scope → Option ℕ → Type 0
LeadsToPhase scope None = Unit {0}
LeadsToPhase scope (Some index) = index < length scope.phases

-- the domain of a variable, flag, bag or queue by its name
abbrev pub domain_at : List (ℕ × Domain) → Option ℕ → Option Domain
domain_at variables None = None
domain_at variables (Some index) = option_map (λ v. v.1) (slice_get variables index)

abbrev pub domain_named : Scope → ℕ → Option Domain
domain_named scope name = domain_at scope.variables (index_of name (names_of scope.variables))

abbrev pub has_value : Option Domain → Bool
has_value None = false
has_value (Some (domain.Number range)) = true
has_value (Some (domain.Flag start)) = true
has_value (Some (domain.Held d capacity)) = false

-- a suitable bag or queue
abbrev pub holds : Wanted → Option Domain → Bool
holds w None = false
holds w (Some (domain.Number range)) = false
holds w (Some (domain.Flag start)) = false
holds w (Some (domain.Held d capacity)) = suits w d

-- a variable or a flag
abbrev pub is_variable : Scope → ℕ → Bool
is_variable scope name = has_value (domain_named scope name)

-- a suitable bag or queue of the state
abbrev pub is_held : Wanted → Scope → ℕ → Bool
is_held w scope name = holds w (domain_named scope name)

-- the same if it is read: in external and confluent rules an input port is a bag, too
abbrev pub is_readable : Wanted → Scope → Option RuleSort → ℕ → Bool
is_readable w scope rule name = is_held w scope name || (suits_port w && (sees_inputs rule && is_declared name scope.inputs))

-- what is suitable where a collection of this discipline is changed
abbrev pub wanted_of : Discipline → Wanted
wanted_of discipline.Bag = wanted.Bag
wanted_of discipline.Queue = wanted.Queue

-- the name of a command: a phase for `goto`, a queue for `pop`
abbrev pub is_command_known : Scope → Command → ℕ → Bool
is_command_known scope command.Goto name = is_declared name scope.phases
is_command_known scope command.Pop name = is_held wanted.Queue scope name

-- a loop around that has this variable, or else a variable or a flag of the model
abbrev pub is_value : Scope → List ℕ → ℕ → Bool
is_value scope loops name = is_declared name loops || is_variable scope name

-- a variable or a flag of the model that no loop around hides
abbrev pub is_assignable : Scope → List ℕ → ℕ → Bool
is_assignable scope loops name = is_variable scope name && not (is_declared name loops)

-- all names of an expression in a rule of a sort, or outside of all rules, are known: names of values where a value is wanted, and else of
-- bags or queues that can be read, as the call requires; `elapsed` is known only in external rules
abbrev pub are_terms_known : Scope → Option RuleSort → List ℕ → Expression → Bool
are_terms_known scope rule loops (Literal n) = true
are_terms_known scope rule loops (TruthValue offset value) = true
are_terms_known scope rule loops (Named name) = is_value scope loops name.number
are_terms_known scope rule loops (Parens offset e) = are_terms_known scope rule loops e
are_terms_known scope rule loops (Prefixed operator offset e) = are_terms_known scope rule loops e
are_terms_known scope rule loops (Binary operator a b) = are_terms_known scope rule loops a && are_terms_known scope rule loops b
are_terms_known scope rule loops (Call call offset b) = is_readable (wanted_by call) scope rule b.number
are_terms_known scope rule loops (Elapsed offset) = knows_elapsed rule
are_terms_known scope rule loops (Times offset e b) = are_terms_known scope rule loops e && is_readable wanted.Bag scope rule b.number

-- those of a hold, which is in no rule
abbrev pub are_ticks_known : Scope → Option Expression → Bool
are_ticks_known scope None = true
are_ticks_known scope (Some e) = are_terms_known scope None [] e

-- all names of statements in loops of these variables are known: variables and flags, bags, queues, phases and ports; no loop
-- variable is assigned, and no input port is changed
abbrev pub are_names_known : Scope → Option RuleSort → List ℕ → Statements → Bool
are_names_known scope rule loops Done = true
are_names_known scope rule loops (Assign variable e rest) =
    is_assignable scope loops variable.number && (are_terms_known scope rule loops e && are_names_known scope rule loops rest)
are_names_known scope rule loops (Does c offset name rest) = is_command_known scope c name.number && are_names_known scope rule loops rest
are_names_known scope rule loops (Send offset port e rest) =
    is_declared port.number scope.outputs && (are_terms_known scope rule loops e && are_names_known scope rule loops rest)
are_names_known scope rule loops (If offset e block rest) =
    are_terms_known scope rule loops e && (are_names_known scope rule loops block && are_names_known scope rule loops rest)
are_names_known scope rule loops (IfElse offset e block other rest) =
    are_terms_known scope rule loops e
    && (are_names_known scope rule loops block && (are_names_known scope rule loops other && are_names_known scope rule loops rest))
are_names_known scope rule loops (For offset v b block rest) =
    is_readable wanted.Values scope rule b.number
    && (are_names_known scope rule (v.number ∷ loops) block && are_names_known scope rule loops rest)
are_names_known scope rule loops (Changes c offset e x rest) =
    are_terms_known scope rule loops e
    && (is_held (wanted_of (discipline_of_change c)) scope x.number && are_names_known scope rule loops rest)

-- a value of a type
abbrev pub is_of_type : ValueType → Value → Bool
is_of_type Number (value.Number n) = true
is_of_type Number (value.Truth b) = false
is_of_type Truth (value.Number n) = false
is_of_type Truth (value.Truth b) = true

-- what is known in the blocks of loops with these variables, the innermost first
abbrev pub known_within : List (Name × ℤ) → Known → Known
known_within [] known = known
known_within (v ∷ bound) known = known_in_loop v.0 (known_within bound known)

-- the values of loop variables in a moment
abbrev pub values_within : List (Name × ℤ) → List (ℕ × ℤ)
values_within [] = []
values_within (v ∷ bound) = (v.0.number, v.1) ∷ values_within bound

-- what can be read beside the state in the blocks of these loops
abbrev pub context_within : Arrivals → List (Name × ℤ) → Context
context_within arrivals bound = record { arrivals = arrivals; loops = values_within bound }

-- the state has a datum of this domain at the index of the name
pub record HoldsDatum (scope : Scope) (s : State) (name : ℕ) (d : Domain) : Type 0 where
  pub index : ℕ
  pub found : index_of name (names_of scope.variables) ≡ Some index
  pub datum : Datum
  pub there : slice_get s.variables index ≡ Some datum
  pub fitting : datum_fits d datum ≡ true

-- the name is that of an input port, and denotes the bag that arrived there
pub record ReadsPort (scope : Scope) (name : ℕ) : Type 0 where
  pub port : ℕ
  pub found : index_of name scope.inputs ≡ Some port
  pub within : port < length scope.inputs
  pub read : (m : Moment) → collection_of_name scope m name ≡ collection.Bag (bag_at m.context.arrivals.received port)
