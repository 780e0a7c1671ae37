-- The refusals of an atomic model: what is allowed where, phases and holds, ranges and capacities, and the start.
use Rattle.std.specs.Prelude.{ℕ, ◌==◌, Bool, true, false, not, ◌&&◌, ◌||◌, max, nat_le, int_lt, if◌then◌else◌, List, [], ◌∷◌}
use Rattle.std.specs.Prelude.{◌++◌, map, filter_map, Option, Some, None, Result, Ok, Err}
use Rattle.std.specs.List.{flat_map, list_any}
use Rattle.dv_lex.specs.declared.error.Refusal.{Refusal}
use Rattle.dv_lex.specs.declared.error.RefusalNumber.TheVariants.{E6, E7, E8, E9, E10, E11, E17}
use Rattle.dv_syntax.specs.Trees.{Expression, Literal, TruthValue, Named, Parens, Prefixed, Binary, Call, Elapsed, Times}
use Rattle.dv_syntax.specs.Trees.{Statements, Done, Assign, Does, Send, If, IfElse, For, Changes, PhasesTree, HoldTree}
use Rattle.dv_syntax.specs.Trees.{RuleTree, AtomicTree}
use Rattle.dv_syntax.specs.declared.tree.Name.{Name}
use Rattle.dv_syntax.specs.declared.tree.Variable.{Variable}
use Rattle.dv_syntax.specs.declared.tree.Command.{Command}
use Rattle.dv_syntax.specs.declared.tree.Command.TheVariants as command
use Rattle.dv_syntax.specs.declared.tree.StateCollection.{StateCollection}
use Rattle.dv_syntax.specs.declared.tree.Declaration.{Declaration}
use Rattle.dv_syntax.specs.declared.tree.Declaration.TheVariants.{In, Out, Var, Flag, Held}
use Rattle.dv_syntax.specs.declared.tree.Start.{Start}
use Rattle.dv_syntax.specs.declared.tree.RuleSort.{RuleSort}
use Rattle.dv_syntax.specs.declared.tree.RuleSort.TheVariants as rule
use Rattle.dv_bag.specs.Collections.{discipline_of_change, same_discipline}
use Rattle.dv_bag.specs.Limits.{greatest_count}
use Rattle.dv_bag.specs.declared.discipline.Change.{Change}
use Rattle.dv_bag.specs.declared.discipline.Discipline.{Discipline}
use Rattle.dv_bag.specs.declared.discipline.Discipline.TheVariants as discipline
use Rattle.dv_eval.specs.declared.scope.VariableRange.{VariableRange}
use Rattle.dv_eval.specs.declared.scope.Domain.{Domain}
use Rattle.dv_eval.specs.declared.scope.Domain.TheVariants as domain
use Rattle.dv_eval.specs.Scope.{scope_of, range_of, same_sort, start_state, hold_ticks, state_variables_in, phases_in}
use Rattle.dv_eval.specs.Meaning.{hold_of}
use Rattle.dv_check.specs.Limits.{greatest_names}
use Rattle.dv_check.specs.declared.declarations.NameSort.{NameSort}
use Rattle.dv_check.specs.declared.declarations.NameSort.TheVariants.{Variable as ForVariable, Flag as ForFlag, Held as ForHeld}
use Rattle.dv_check.specs.declared.declarations.NameSort.TheVariants.{Input as ForInput, Output as ForOutput}
use Rattle.dv_check.specs.declared.declarations.NameSort.TheVariants.{LoopVariable as ForLoopVariable}
use Rattle.dv_bag.specs.declared.value.ValueType.TheVariants.{Number, Truth}
use Rattle.dv_check.specs.declared.declarations.Declarations.{Declarations}
use Rattle.dv_check.specs.declared.environment.Environment.{Environment, fold-Environment}
use Rattle.dv_check.specs.declared.environment.Environment.TheOpen.{Environment-F}
use Rattle.dv_check.specs.declared.starts.Starts.{Starts}
use Rattle.dv_check.specs.declared.wanted.Wanted.TheVariants as wanted
use Rattle.dv_check.specs.Names.{refusal, refusal_if, among, within_limit, repeats, excess, first_of}
use Rattle.dv_check.specs.Tables.{value_for, has_name}
use Rattle.dv_check.specs.Types.{Known, type_of_name, held_name_refusals, offset_refusals, value_refusals}

-- ---- Names

abbrev pub name_of_declaration : Declaration → Name
name_of_declaration (In port) = port
name_of_declaration (Out port) = port
name_of_declaration (Var v) = v.name
name_of_declaration (Flag f) = f.name
name_of_declaration (Held c) = c.name

abbrev pub number_of_declaration : Declaration → ℕ
number_of_declaration d = (name_of_declaration d).number

abbrev pub offset_of_declaration : Declaration → ℕ
offset_of_declaration d = (name_of_declaration d).offset

abbrev pub sort_of : Declaration → NameSort
sort_of (In port) = ForInput
sort_of (Out port) = ForOutput
sort_of (Var v) = ForVariable
sort_of (Flag f) = ForFlag
sort_of (Held c) = ForHeld c.discipline

-- what a name of a port, variable, flag, bag or queue denotes: if it is declared twice the first declaration counts
abbrev pub sort_in : List Declaration → ℕ → Option NameSort
sort_in declarations = first_of number_of_declaration sort_of declarations

-- the offset of the first declaration of a name
abbrev pub offset_in : List Declaration → ℕ → Option ℕ
offset_in declarations = first_of number_of_declaration offset_of_declaration declarations

-- what is known outside of all rules; the phases of all items of phases are known
abbrev pub known_in : AtomicTree → Known
known_in m = record {
  sort = sort_in m.declarations;
  offset = offset_in m.declarations;
  has_phase = among (phases_in m.phases);
  rule = None;
}

-- in a rule of a sort, or outside of all rules
abbrev pub known_in_rule : Option RuleSort → Known → Known
known_in_rule rule known = record { sort = known.sort; offset = known.offset; has_phase = known.has_phase; rule = rule }

-- in the block of a loop its variable is known, and hides other meanings of its name
abbrev pub known_in_loop : Name → Known → Known
known_in_loop v known = record {
  sort = λ q. if v.number == q then Some ForLoopVariable else known.sort q;
  offset = λ q. if v.number == q then Some v.offset else known.offset q;
  has_phase = known.has_phase;
  rule = known.rule;
}

-- what the tables contain
abbrev pub known_by : Declarations → Known
known_by d = record { sort = value_for d.sorts; offset = value_for d.offsets; has_phase = has_name d.phases; rule = None }

-- what an environment contains: its model's tables, the rule around, and the variables of the loops around
abbrev pub environment_step : Environment-F Known → Known
environment_step (Environment-F.Model declarations rule) = known_in_rule rule (known_by declarations.now)
environment_step (Environment-F.Loop variable outer) = known_in_loop variable outer.now

abbrev pub known_at : Environment → Known
known_at = fold-Environment Known environment_step

-- the phase of a rule of a sort
abbrev pub ruled_phase : RuleSort → RuleTree → Option Name
ruled_phase sort r = if same_sort r.sort sort then Some r.phase else None

-- the phases that have rules of a sort, one for each rule
abbrev pub ruled_phases : RuleSort → List RuleTree → List Name
ruled_phases sort rules = filter_map (ruled_phase sort) rules

-- the phase of a hold, at the offset of the word `hold`
abbrev pub held_phase : HoldTree → Name
held_phase h = record { number = h.phase.number; offset = h.offset }

abbrev pub held_phases : List HoldTree → List Name
held_phases holds = map held_phase holds

-- the port that a declaration declares
abbrev pub port_of : Declaration → Option Name
port_of (In port) = Some port
port_of (Out port) = Some port
port_of (Var v) = None
port_of (Flag f) = None
port_of (Held c) = None

-- input and output ports together
abbrev pub ports_in : List Declaration → List Name
ports_in declarations = filter_map port_of declarations

abbrev pub name_of_state_variable : Name × Domain → Name
name_of_state_variable v = v.0

-- names that are declared twice, two rules of one sort for one phase, and too many names of a kind
abbrev pub names_refusals : AtomicTree → List Refusal
names_refusals m =
    repeats E6 (map name_of_declaration m.declarations)
    ++ (repeats E6 (phases_in m.phases)
    ++ (repeats E6 (ruled_phases rule.Output m.rules)
    ++ (repeats E6 (ruled_phases rule.Internal m.rules)
    ++ (repeats E6 (ruled_phases rule.External m.rules)
    ++ (repeats E6 (ruled_phases rule.Confluent m.rules)
    ++ (excess (ports_in m.declarations)
    ++ (excess (map name_of_state_variable (state_variables_in m.declarations))
    ++ excess (phases_in m.phases))))))))

-- ---- What must occur once

-- an item that must occur once: missing at the model's name, repeated at the second one's word
abbrev pub once_refusals : ℕ → List ℕ → List Refusal
once_refusals model_offset [] = refusal E10 model_offset ∷ []
once_refusals model_offset (offset ∷ []) = []
once_refusals model_offset (offset ∷ (second ∷ more)) = refusal E10 second ∷ []

-- the phases of the first item of phases
abbrev pub first_phases : List PhasesTree → List Name
first_phases [] = []
first_phases (p ∷ items) = p.names

-- a phase without a hold
abbrev pub is_hold_missing : (ℕ → Bool) → List Name → Bool
is_hold_missing held phases = list_any (λ (p : Name). not (held p.number)) phases

-- a second hold of a phase, at its word; a phase without one, at the model's name: only phases of the first item and within the limit need
-- one
abbrev pub holds_once_refusals : AtomicTree → List Refusal
holds_once_refusals m =
    repeats E10 (held_phases m.holds)
    ++ refusal_if (is_hold_missing (among (held_phases m.holds)) (within_limit greatest_names (first_phases m.phases))) E10 m.name.offset

-- the offsets of the words `phases` and `start`
abbrev pub phases_offsets : List PhasesTree → List ℕ
phases_offsets items = map (λ (p : PhasesTree). p.offset) items

abbrev pub start_offsets : List Start → List ℕ
start_offsets items = map (λ (s : Start). s.offset) items

-- phases, start and holds, each of which must occur once
abbrev pub standing_refusals : AtomicTree → List Refusal
standing_refusals m =
    once_refusals m.name.offset (phases_offsets m.phases)
    ++ (once_refusals m.name.offset (start_offsets m.starts)
    ++ holds_once_refusals m)

-- ---- Statements, holds and ranges

-- an output rule changes nothing and goes nowhere
abbrev pub is_output_rule : Option RuleSort → Bool
is_output_rule None = false
is_output_rule (Some sort) = same_sort sort rule.Output

-- the variable of an assignment: known, a variable or a flag, and not in an output rule; a loop variable is never assigned
abbrev pub assignment_refusals : Option RuleSort → Option NameSort → ℕ → List Refusal
assignment_refusals rule None offset = refusal E7 offset ∷ []
assignment_refusals rule (Some ForInput) offset = refusal E8 offset ∷ []
assignment_refusals rule (Some ForOutput) offset = refusal E8 offset ∷ []
assignment_refusals rule (Some ForVariable) offset = refusal_if (is_output_rule rule) E9 offset
assignment_refusals rule (Some ForFlag) offset = refusal_if (is_output_rule rule) E9 offset
assignment_refusals rule (Some (ForHeld d)) offset = refusal E8 offset ∷ []
assignment_refusals rule (Some ForLoopVariable) offset = refusal E9 offset ∷ []

-- the port of a send: known, and an output
abbrev pub sent_port_refusals : Option NameSort → ℕ → List Refusal
sent_port_refusals None offset = refusal E7 offset ∷ []
sent_port_refusals (Some ForVariable) offset = refusal E8 offset ∷ []
sent_port_refusals (Some ForFlag) offset = refusal E8 offset ∷ []
sent_port_refusals (Some (ForHeld d)) offset = refusal E8 offset ∷ []
sent_port_refusals (Some ForInput) offset = refusal E8 offset ∷ []
sent_port_refusals (Some ForOutput) offset = []
sent_port_refusals (Some ForLoopVariable) offset = refusal E8 offset ∷ []

-- the collection that is changed: known, and one of the state of this discipline
abbrev pub changed_refusals : Discipline → Option NameSort → ℕ → List Refusal
changed_refusals d None offset = refusal E7 offset ∷ []
changed_refusals d (Some ForVariable) offset = refusal E8 offset ∷ []
changed_refusals d (Some ForFlag) offset = refusal E8 offset ∷ []
changed_refusals d (Some (ForHeld other)) offset = refusal_if (not (same_discipline other d)) E8 offset
changed_refusals d (Some ForInput) offset = refusal E8 offset ∷ []
changed_refusals d (Some ForOutput) offset = refusal E8 offset ∷ []
changed_refusals d (Some ForLoopVariable) offset = refusal E8 offset ∷ []

abbrev pub phase_refusals : Known → Name → List Refusal
phase_refusals known phase = refusal_if (not (known.has_phase phase.number)) E7 phase.offset

-- a loop variable whose name is that of an item or of the variable of a loop around: the second in the text is refused
abbrev pub loop_variable_refusals : Option ℕ → ℕ → List Refusal
loop_variable_refusals None offset = []
loop_variable_refusals (Some declared) offset = refusal E6 (max declared offset) ∷ []

-- the name of a command: a phase for `goto`, or a queue for `pop`
abbrev pub command_name_refusals : Known → Command → Name → List Refusal
command_name_refusals known command.Goto name = phase_refusals known name
command_name_refusals known command.Pop name = changed_refusals discipline.Queue (known.sort name.number) name.offset

-- a change of a collection by a value: not in an output rule
abbrev pub change_refusals : Known → Change → ℕ → Expression → Name → List Refusal
change_refusals known c offset value collection =
    refusal_if (is_output_rule known.rule) E9 offset
    ++ (offset_refusals Number known value
    ++ changed_refusals (discipline_of_change c) (known.sort collection.number) collection.offset)

abbrev pub statements_refusals : Known → Statements → List Refusal
statements_refusals known Done = []
statements_refusals known (Assign variable value rest) =
    assignment_refusals known.rule (known.sort variable.number) variable.offset
    ++ (value_refusals (type_of_name (known.sort variable.number)) known value ++ statements_refusals known rest)
statements_refusals known (Does c offset name rest) =
    refusal_if (is_output_rule known.rule) E9 offset ++ (command_name_refusals known c name ++ statements_refusals known rest)
statements_refusals known (Send offset port value rest) =
    refusal_if (not (is_output_rule known.rule)) E9 offset
    ++ (sent_port_refusals (known.sort port.number) port.offset
    ++ (offset_refusals Number known value ++ statements_refusals known rest))
statements_refusals known (If offset condition block rest) =
    offset_refusals Truth known condition ++ (statements_refusals known block ++ statements_refusals known rest)
statements_refusals known (IfElse offset condition block other rest) =
    offset_refusals Truth known condition
    ++ (statements_refusals known block ++ (statements_refusals known other ++ statements_refusals known rest))
statements_refusals known (For offset variable bag block rest) =
    loop_variable_refusals (known.offset variable.number) variable.offset
    ++ (held_name_refusals wanted.Values known.rule (known.sort bag.number) bag.offset
    ++ (statements_refusals (known_in_loop variable known) block ++ statements_refusals known rest))
statements_refusals known (Changes c offset value collection rest) =
    change_refusals known c offset value collection ++ statements_refusals known rest

-- an empty range, or one without the start value
abbrev pub is_out_of_range : VariableRange → Bool
is_out_of_range r = int_lt r.high r.low || (int_lt r.start r.low || int_lt r.high r.start)

abbrev pub variable_refusals : Variable → List Refusal
variable_refusals v = refusal_if (is_out_of_range (range_of v)) E11 v.name.offset

-- the capacity of a bag or a queue: at least one value
abbrev pub is_capacity : ℕ → Bool
is_capacity n = nat_le 1 n && nat_le n greatest_count

abbrev pub collection_refusals : StateCollection → List Refusal
collection_refusals c = refusal_if (not (is_capacity c.capacity.value)) E17 c.capacity.offset

-- what is wrong with a declaration
abbrev pub declaration_refusals : Declaration → List Refusal
declaration_refusals (In port) = []
declaration_refusals (Out port) = []
declaration_refusals (Var v) = variable_refusals v
declaration_refusals (Flag f) = []
declaration_refusals (Held c) = collection_refusals c

abbrev pub start_refusals : Known → Start → List Refusal
start_refusals known s = phase_refusals known s.phase

abbrev pub ticks_refusals : Known → Option Expression → List Refusal
ticks_refusals known None = []
ticks_refusals known (Some e) = offset_refusals Number known e

abbrev pub hold_refusals : Known → HoldTree → List Refusal
hold_refusals known h = phase_refusals known h.phase ++ ticks_refusals known h.ticks

abbrev pub rule_refusals : Known → RuleTree → List Refusal
rule_refusals known r = phase_refusals known r.phase ++ statements_refusals (known_in_rule (Some r.sort) known) r.body

-- what is wrong with the items, one by one
abbrev pub items_refusals : Known → AtomicTree → List Refusal
items_refusals known m =
    flat_map declaration_refusals m.declarations
    ++ (flat_map (start_refusals known) m.starts
    ++ (flat_map (hold_refusals known) m.holds
    ++ flat_map (rule_refusals known) m.rules))

-- ---- The hold of the start phase

-- a list without elements
abbrev pub is_none_left : {A : Type 0} → List A → Bool
is_none_left [] = true
is_none_left (x ∷ xs) = false

abbrev pub is_fault : {A B : Type 0} → Result A B → Bool
is_fault (Ok x) = false
is_fault (Err f) = true

-- a known state variable whose declaration is not refused: that of a flag never is
abbrev pub is_in_range : Option Domain → Bool
is_in_range None = false
is_in_range (Some (domain.Number range)) = not (is_out_of_range range)
is_in_range (Some (domain.Flag start)) = true
is_in_range (Some (domain.Held d capacity)) = is_capacity capacity

abbrev pub number_of_state_variable : Name × Domain → ℕ
number_of_state_variable v = v.0.number

abbrev pub domain_of_state_variable : Name × Domain → Domain
domain_of_state_variable v = v.1

-- a variable, flag, bag or queue whose first declaration is not refused: it is within the limit, and in range
unfoldable pub is_start_known : List (Name × Domain) → ℕ → Bool
is_start_known variables name =
    is_in_range (first_of number_of_state_variable domain_of_state_variable (within_limit greatest_names variables) name)

-- what the tables contain
unfoldable pub is_start_known_by : Starts → ℕ → Bool
is_start_known_by starts name = is_in_range (value_for starts.domains name)

-- an expression with no other names
abbrev pub names_only : (ℕ → Bool) → Expression → Bool
names_only known (Literal n) = true
names_only known (TruthValue offset value) = true
names_only known (Named name) = known name.number
names_only known (Parens offset e) = names_only known e
names_only known (Prefixed operator offset e) = names_only known e
names_only known (Binary operator a b) = names_only known a && names_only known b
names_only known (Call call offset bag) = known bag.number
names_only known (Elapsed offset) = true
names_only known (Times offset e bag) = names_only known e && known bag.number

abbrev pub ticks_names_only : (ℕ → Bool) → Option Expression → Bool
ticks_names_only known None = true
ticks_names_only known (Some e) = names_only known e

-- a known phase with these ticks, and nothing wrong with them
abbrev pub is_hold_fine : Known → Name → Option Expression → Bool
is_hold_fine known phase ticks = is_none_left (phase_refusals known phase ++ ticks_refusals known ticks)

-- a hold that can be evaluated: nothing is wrong with it, nor with the first declarations of the names in it
abbrev pub can_ask_hold : Known → List (Name × Domain) → Name → Option Expression → Bool
can_ask_hold known variables phase ticks = is_hold_fine known phase ticks && ticks_names_only (is_start_known variables) ticks

-- a hold that can be evaluated, and faults in the start state
abbrev pub is_start_fault : Known → AtomicTree → Name → Bool
is_start_fault known m phase =
    can_ask_hold known (state_variables_in m.declarations) phase (hold_ticks phase.number m.holds)
    && is_fault (hold_of (scope_of m) (hold_ticks phase.number m.holds) (start_state m))

-- the hold of the phase of the first start item
abbrev pub start_hold_refusals : Known → AtomicTree → List Start → List Refusal
start_hold_refusals known m [] = []
start_hold_refusals known m (s ∷ starts) = refusal_if (is_start_fault known m s.phase) E11 s.phase.offset

-- ---- All of them

abbrev pub atomic_refusals : AtomicTree → List Refusal
atomic_refusals m =
    names_refusals m ++ (standing_refusals m ++ (items_refusals (known_in m) m ++ start_hold_refusals (known_in m) m m.starts))
