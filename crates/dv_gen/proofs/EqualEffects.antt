-- The effect of what is accepted is the same by indices as by names, on a state that fits.
use Rattle.std.proofs.Common.{◌≡◌, ℕ, ℤ, Bool, true, false, if◌then◌else◌, List, [], ◌∷◌, length, refl, sym, ap, ◌∙◌, Option}
use Rattle.std.proofs.Common.{Some, None, Result, Ok, Err, IfOk, IfSome}
use Rattle.std.specs.List.{All}
use Rattle.std.proofs.lemmas.Bool.{lt-ltb}
use Rattle.std.proofs.lemmas.Result.{IfOk-at_ok}
use Rattle.dv_syntax.specs.Trees.{AtomicTree, HoldTree, RuleTree, Expression as NamedExpression, Statements as NamedStatements}
use Rattle.dv_syntax.specs.Trees.{Done as Ended, Assign, Does, Send, If as IfOnly, IfElse, For as Each, Changes}
use Rattle.dv_syntax.specs.declared.tree.Command.{Command}
use Rattle.dv_syntax.specs.declared.tree.Command.TheVariants as command
use Rattle.dv_syntax.specs.declared.tree.Name.{Name}
use Rattle.dv_syntax.specs.declared.tree.RuleSort.{RuleSort}
use Rattle.dv_bag.specs.Arrivals.{Arrivals, nothing_arrived}
use Rattle.dv_bag.specs.Collections.{changed, discipline_of_change, popped, values_in as values_held}
use Rattle.dv_bag.specs.Outcome.{◌>>=◌}
use Rattle.dv_bag.specs.declared.collection.Collection.{Collection}
use Rattle.dv_bag.specs.declared.discipline.Change.{Change}
use Rattle.dv_bag.specs.declared.discipline.Discipline.{Discipline}
use Rattle.dv_bag.specs.declared.discipline.Discipline.TheVariants as discipline
use Rattle.dv_bag.specs.declared.fault.Fault.{Fault}
use Rattle.dv_bag.specs.declared.state.State.{State}
use Rattle.dv_bag.specs.declared.state.Effect.{Effect}
use Rattle.dv_bag.specs.declared.value.Value.{Value}
use Rattle.dv_bag.specs.declared.value.ValueType.{ValueType}
use Rattle.dv_bag.specs.declared.value.ValueType.TheVariants.{Number, Truth}
use Rattle.dv_eval.specs.Meaning.{assignment, changing, collection_of_name, command_effect, effect_of, meaning, moment_in}
use Rattle.dv_eval.specs.Meaning.{number_of, outermost, repetition, run, sending, value_within, truth_of as truth_in_text}
use Rattle.dv_eval.specs.Meaning.{with_made as with_made_in_text}
use Rattle.dv_eval.specs.Scope.{Scope, names_of, index_of, scope_of}
use Rattle.dv_eval.specs.declared.scope.Domain.TheVariants as domain
use Rattle.dv_check.specs.declared.declarations.NameSort.{NameSort}
use Rattle.dv_check.specs.declared.wanted.Wanted.TheVariants as want
use Rattle.dv_check.specs.Rules.{atomic_refusals, changed_refusals, command_name_refusals, known_in, known_in_rule}
use Rattle.dv_check.specs.Rules.{statements_refusals}
use Rattle.dv_check.specs.Types.{Known, offset_refusals, type_of_name, value_refusals}
use Rattle.dv_check.proofs.CheckedFiles.{not_false, not_refused}
use Rattle.law_accepted.specs.Fitting.{context_within, fits, is_of_type, known_within}
use Rattle.law_accepted.proofs.Effects.{Fits, fits_kept, run_fits}
use Rattle.law_accepted.proofs.Fitting.{HasIndex}
use Rattle.law_accepted.proofs.Keeping.{StatementsKeep, repetition_keeps, sending_keeps}
use Rattle.law_accepted.proofs.Outcomes.{if_ok_branch}
use Rattle.law_accepted.proofs.Typed.{index_typed}
use Rattle.dv_code.specs.Machine.{first_effect}
use Rattle.dv_code.specs.Operations.{action_effect, deed_effect, with_made}
use Rattle.dv_code.specs.Shape.{Shape}
use Rattle.dv_code.specs.declared.instruction.Action.{Action}
use Rattle.dv_code.specs.declared.instruction.Action.TheVariants as action
use Rattle.dv_gen.specs.Resolution.{all_resolved, assignment_at, choice, deed_of, hold_tree, index_or_first, resolved, rule_shape}
use Rattle.dv_gen.specs.Resolution.{rule_tree, slot_index}
use Rattle.dv_gen.specs.Resolved.{Act, Done, Expression, For, If, Obey, Statements, When, effect_from, for_each, or_same}
use Rattle.dv_gen.specs.Resolved.{rule_effect, truth_of, value_of, values_in}
use Rattle.dv_gen.proofs.Accepted.{accepted_assignment, accepted_change, accepted_command, accepted_if, accepted_if_else}
use Rattle.dv_gen.proofs.Accepted.{accepted_loop, accepted_send, each_hold, each_rule}
use Rattle.dv_gen.proofs.EqualOperators.{bind_agrees, on_number, on_truth}
use Rattle.dv_gen.proofs.EqualValues.{collection_agrees, gives_type, value_agrees}
use Rattle.dv_gen.proofs.FittingStates.{held_there}
use Rattle.dv_gen.proofs.LoopVariables.{items_within, knows_within, loops_of}
use Rattle.dv_gen.proofs.KnownNames.{Assigned, Stands, StandsForHeld, ToFlag, ToVariable, assigned_stands, assigned_type}
use Rattle.dv_gen.proofs.KnownNames.{changed_stands, flag_assignment, sent_port_stands, slot_there, variable_assignment}

-- ---- Actions and deeds

-- what is made of a collection is put at its index, or is the fault; where nothing is made, nothing changes
made_agrees : (e : Effect) (index : ℕ) (made : Option (Result Collection Fault))
    → or_same e (with_made e index made) ≡ with_made_in_text index e made
made_agrees e index None = refl
made_agrees e index (Some (Ok c)) = refl
made_agrees e index (Some (Err f)) = refl

module _ (scope : Scope) (s : RuleSort) (e : Effect) (fit : Fits scope e) (q : ℕ) where
  abbrev done_by : Action → Value → Result Effect Fault
  done_by a v = or_same e (action_effect (rule_shape scope s) a v e)

  assignment_agrees : (loops : List ℕ) {o : Option NameSort} (t : ValueType) (v : Value) → Assigned scope loops q o
      → type_of_name o ≡ Some t → is_of_type t v ≡ true
      → done_by (assignment_at scope (index_of q (names_of scope.variables))) v ≡ assignment scope q v e
  assignment_agrees loops t v (ToVariable stands) typed is =
      let same : Number ≡ t = cc in
      let target = variable_assignment scope loops q stands in
      let slot = slot_there scope q (domain.Number stands.range) stands.has in
      let a = assignment_at scope (index_of q (names_of scope.variables)) in
      on_number (λ x. done_by a x) (λ x. assignment scope q x e) v (ap (λ u. is_of_type u v) same ∙ is)
      (λ n. rw (target, slot, stands.has.found, stands.has.there) refl)
  assignment_agrees loops t v (ToFlag stands) typed is =
      let same : Truth ≡ t = cc in
      let target = flag_assignment scope loops q stands in
      let slot = slot_there scope q (domain.Flag stands.start) stands.has in
      let a = assignment_at scope (index_of q (names_of scope.variables)) in
      on_truth (λ x. done_by a x) (λ x. assignment scope q x e) v (ap (λ u. is_of_type u v) same ∙ is)
      (λ b. rw (target, slot, stands.has.found, stands.has.there) refl)

  sending_agrees : (v : Value) → HasIndex q scope.outputs → is_of_type Number v ≡ true
      → done_by (action.Send (index_or_first (index_of q scope.outputs))) v ≡ sending scope q v e
  sending_agrees v there is =
      let within = lt-ltb there.index (length scope.outputs) there.within in
      on_number (λ x. done_by (action.Send (index_or_first (index_of q scope.outputs))) x) (λ x. sending scope q x e) v is
      (λ n. rw (there.found, within) refl)

  change_agrees : (c : Change) (v : Value) → StandsForHeld scope (discipline_of_change c) q → is_of_type Number v ≡ true
      → done_by (action.Change c (slot_index scope q)) v ≡ changing scope c q (number_of v) e
  change_agrees c v stands is =
      let d = discipline_of_change c in
      let slot = slot_there scope q (domain.Held d stands.capacity) stands.has in
      let held = held_there scope e.state fit.state q d stands in
      on_number (λ x. done_by (action.Change c (slot_index scope q)) x) (λ x. changing scope c q (number_of x) e) v is
      (λ n. rw (stands.has.found, slot, stands.has.there, held.1)
      (made_agrees e stands.has.index (changed c stands.capacity n held.0)))

  go_agrees : HasIndex q scope.phases → or_same e (deed_effect (deed_of scope command.Goto q) e) ≡ command_effect scope command.Goto q e
  go_agrees there = rw there.found refl

  pop_agrees : StandsForHeld scope discipline.Queue q
      → or_same e (deed_effect (deed_of scope command.Pop q) e) ≡ command_effect scope command.Pop q e
  pop_agrees stands =
      let held = held_there scope e.state fit.state q discipline.Queue stands in
      rw (stands.has.found, held.1) (made_agrees e stands.has.index (popped held.0))

-- ---- What follows alike

branch_agrees : (b : Bool) (one two first second : Result Effect Fault) → one ≡ first → two ≡ second
    → (if b then one else two) ≡ (if b then first else second)
branch_agrees true one two first second same same_other = same
branch_agrees false one two first second same same_other = same_other

-- the same steps for each of some values
walk_agrees : (scope : Scope) (step named : ℤ → Effect → Result Effect Fault) (ns : List ℤ) (e : Effect)
    → ((n : ℤ) (now : Effect) → Fits scope now → step n now ≡ named n now)
    → ((n : ℤ) (now : Effect) → Fits scope now → IfOk (named n now) (Fits scope))
    → Fits scope e → for_each step ns e ≡ repetition named ns e
walk_agrees scope step named [] e same keeps fit = refl
walk_agrees scope step named (n ∷ ns) e same keeps fit =
    ap (λ r. r >>= for_each step ns) (same n e fit)
    ∙ bind_agrees (named n e) (for_each step ns) (repetition named ns) (λ next is.
    walk_agrees scope step named ns next same keeps (IfOk-at_ok (Fits scope) is (keeps n e fit)))

-- an empty second block is none
choice_effect : (shape : Shape) (arrivals : Arrivals) (items : List ℤ) (condition : Expression) (block other rest : Statements) (e : Effect)
    → effect_from shape arrivals items (choice condition block other rest) e
    ≡ effect_from shape arrivals items (If condition block other rest) e
choice_effect shape arrivals items condition block Done rest e = refl
choice_effect shape arrivals items condition block (Act a value next) rest e = refl
choice_effect shape arrivals items condition block (Obey d next) rest e = refl
choice_effect shape arrivals items condition block (When c b next) rest e = refl
choice_effect shape arrivals items condition block (If c b o next) rest e = refl
choice_effect shape arrivals items condition block (For source b next) rest e = refl

-- ---- Statements

module _ (m : AtomicTree) (none : atomic_refusals m ≡ []) (s : RuleSort) (arrivals : Arrivals) where
  abbrev known : List (Name × ℤ) → Known
  known bound = known_within bound (known_in_rule (Some s) (known_in m))

  abbrev by_indices : List (Name × ℤ) → NamedStatements → Effect → Result Effect Fault
  by_indices bound body =
      effect_from (rule_shape (scope_of m) s) arrivals (items_within bound) (all_resolved (scope_of m) (loops_of bound) body)

  abbrev by_names : List (Name × ℤ) → NamedStatements → Effect → Result Effect Fault
  by_names bound body = run (scope_of m) (context_within arrivals bound) body

  -- what statements keep
  kept : StatementsKeep (scope_of m) (λ phase. Unit {0}) (Fits (scope_of m))
  kept = fits_kept (scope_of m)

  module _ (bound : List (Name × ℤ)) (e : Effect) (fit : Fits (scope_of m) e) where
    abbrev value_by_names : NamedExpression → Result Value Fault
    value_by_names x = value_within (scope_of m) (context_within arrivals bound) e x

    stands : (q : ℕ) → Stands (scope_of m) (loops_of bound) q ((known bound).sort q)
    stands q = (knows_within m none (Some s) bound).name q

    -- a collection of the state that may be changed
    held_changed : (d : Discipline) (x : Name) → changed_refusals d ((known bound).sort x.number) x.offset ≡ []
        → StandsForHeld (scope_of m) d x.number
    held_changed d x accepted =
        changed_stands (scope_of m) (loops_of bound) x.number d ((known bound).sort x.number) x.offset (stands x.number) accepted

    -- a command does what its deed does
    deed_agrees : (c : Command) (name : Name) → command_name_refusals (known bound) c name ≡ []
        → or_same e (deed_effect (deed_of (scope_of m) c name.number) e) ≡ command_effect (scope_of m) c name.number e
    deed_agrees command.Goto name accepted =
        let there = (knows_within m none (Some s) bound).phase name.number (not_false _ (not_refused _ _ _ accepted)) in
        go_agrees (scope_of m) s e fit name.number there
    deed_agrees command.Pop name accepted =
        pop_agrees (scope_of m) s e fit name.number (held_changed discipline.Queue name accepted)

    command_fits : (c : Command) (name : Name) → IfOk (command_effect (scope_of m) c name.number e) (Fits (scope_of m))
    command_fits command.Goto name = kept.gone name.number e tt fit
    command_fits command.Pop name = kept.pops name.number e fit

    -- the same value, something that is done alike with each value of its type, and what follows
    value_follows : (t : ValueType) (x : NamedExpression) (f g : Value → Result Effect Fault) (go on : Effect → Result Effect Fault)
        → offset_refusals t (known bound) x ≡ [] → ((v : Value) → is_of_type t v ≡ true → f v ≡ g v)
        → ((v : Value) → IfOk (g v) (Fits (scope_of m))) → ((next : Effect) → Fits (scope_of m) next → go next ≡ on next)
        → (value_of arrivals (items_within bound) e.state (resolved (scope_of m) (loops_of bound) x) >>= λ v. f v >>= go)
        ≡ (value_by_names x >>= λ v. g v >>= on)
    value_follows t x f g go on accepted step fits later =
        let typed = index_typed (known bound) t x accepted in
        ap (λ r. r >>= λ v. f v >>= go) (value_agrees m none (Some s) arrivals bound e.state fit.state x t typed)
        ∙ bind_agrees (value_by_names x) _ _ (λ v is.
        ap (λ r. r >>= go) (step v (gives_type m none (Some s) arrivals bound e.state fit.state x t typed v is))
        ∙ bind_agrees (g v) go on (λ next gave. later next (IfOk-at_ok (Fits (scope_of m)) gave (fits v))))

    -- a condition, and a block for each of its two values
    choice_follows : (x : NamedExpression) (one two first second : Result Effect Fault) (go on : Effect → Result Effect Fault)
        → offset_refusals Truth (known bound) x ≡ [] → one ≡ first → two ≡ second
        → IfOk first (Fits (scope_of m)) → IfOk second (Fits (scope_of m))
        → ((next : Effect) → Fits (scope_of m) next → go next ≡ on next)
        → (value_of arrivals (items_within bound) e.state (resolved (scope_of m) (loops_of bound) x)
        >>= λ v. (if truth_of v then one else two) >>= go)
        ≡ (value_by_names x >>= λ v. (if truth_in_text v then first else second) >>= on)
    choice_follows x one two first second go on accepted same same_other fits fits_other later =
        value_follows Truth x (λ v. if truth_of v then one else two) (λ v. if truth_in_text v then first else second) go on accepted
        (λ v is. on_truth (λ y. if truth_of y then one else two) (λ y. if truth_in_text y then first else second) v is
        (λ b. branch_agrees b one two first second same same_other))
        (λ v. if_ok_branch (truth_in_text v) first second (Fits (scope_of m)) fits fits_other) later

  effects_agree : (bound : List (Name × ℤ)) (body : NamedStatements) → statements_refusals (known bound) body ≡ [] → (e : Effect)
      → Fits (scope_of m) e → by_indices bound body e ≡ by_names bound body e
  effects_agree bound Ended accepted e fit = refl
  effects_agree bound (Assign n x rest) accepted e fit =
      let k = known bound in
      let parts = accepted_assignment k n x rest accepted in
      let stands_for = stands bound e fit n.number in
      let target = assigned_stands (scope_of m) (loops_of bound) n.number k.rule (k.sort n.number) n.offset stands_for parts.target in
      let type = assigned_type (scope_of m) (loops_of bound) n.number target.0 in
      let value = ap (λ o. value_refusals o k x) (sym type.1) ∙ parts.value in
      value_follows bound e fit type.0 x _ (λ v. assignment (scope_of m) n.number v e) (by_indices bound rest) (by_names bound rest) value
      (λ v is. assignment_agrees (scope_of m) s e fit n.number (loops_of bound) type.0 v target.0 type.1 is)
      (λ v. kept.assigned n.number v e fit) (effects_agree bound rest parts.rest)
  effects_agree bound (Does c offset name rest) accepted e fit =
      let parts = accepted_command (known bound) c offset name rest accepted in
      let same = deed_agrees bound e fit c name parts.target in
      let done = command_effect (scope_of m) c name.number e in
      ap (λ r. r >>= by_indices bound rest) same
      ∙ bind_agrees done (by_indices bound rest) (by_names bound rest) (λ next is.
      effects_agree bound rest parts.rest next (IfOk-at_ok (Fits (scope_of m)) is (command_fits bound e fit c name)))
  effects_agree bound (Send offset port x rest) accepted e fit =
      let k = known bound in
      let parts = accepted_send k offset port x rest accepted in
      let stands_for = stands bound e fit port.number in
      let there = sent_port_stands (scope_of m) (loops_of bound) port.number (k.sort port.number) port.offset stands_for parts.target in
      value_follows bound e fit Number x _ (λ v. sending (scope_of m) port.number v e) (by_indices bound rest) (by_names bound rest)
      parts.value (λ v is. sending_agrees (scope_of m) s e fit port.number v there is)
      (λ v. sending_keeps (scope_of m) (λ phase. Unit {0}) (Fits (scope_of m)) kept port.number v e fit)
      (effects_agree bound rest parts.rest)
  effects_agree bound (IfOnly offset x block rest) accepted e fit =
      let parts = accepted_if (known bound) offset x block rest accepted in
      let context = context_within arrivals bound in
      choice_follows bound e fit x (by_indices bound block e) (Ok e) (by_names bound block e) (Ok e)
      (by_indices bound rest) (by_names bound rest) parts.condition (effects_agree bound block parts.first e fit) refl
      (run_fits (scope_of m) context block e fit) fit (effects_agree bound rest parts.rest)
  effects_agree bound (IfElse offset x block other rest) accepted e fit =
      let parts = accepted_if_else (known bound) offset x block other rest accepted in
      let context = context_within arrivals bound in
      choice_effect (rule_shape (scope_of m) s) arrivals (items_within bound) (resolved (scope_of m) (loops_of bound) x)
      (all_resolved (scope_of m) (loops_of bound) block) (all_resolved (scope_of m) (loops_of bound) other)
      (all_resolved (scope_of m) (loops_of bound) rest) e
      ∙ choice_follows bound e fit x (by_indices bound block e) (by_indices bound other e) (by_names bound block e) (by_names bound other e)
      (by_indices bound rest) (by_names bound rest) parts.condition (effects_agree bound block parts.first e fit)
      (effects_agree bound other parts.second e fit)
      (run_fits (scope_of m) context block e fit) (run_fits (scope_of m) context other e fit) (effects_agree bound rest parts.rest)
  effects_agree bound (Each offset v b block rest) accepted e fit =
      let parts = accepted_loop (known bound) offset v b block rest accepted in
      let held = collection_agrees m none (Some s) arrivals bound e.state fit.state want.Values b.number parts.readable in
      let values = values_held (collection_of_name (scope_of m) (moment_in (context_within arrivals bound) e.state) b.number) in
      let step = λ (n : ℤ). by_indices ((v, n) ∷ bound) block in
      let named = λ (n : ℤ). by_names ((v, n) ∷ bound) block in
      let keeps = λ (n : ℤ) (now : Effect). run_fits (scope_of m) (context_within arrivals ((v, n) ∷ bound)) block now in
      let same = walk_agrees (scope_of m) step named values e (λ n now. effects_agree ((v, n) ∷ bound) block parts.inside now) keeps fit in
      ap (λ o. for_each step (values_in o) e >>= by_indices bound rest) held.0
      ∙ (ap (λ r. r >>= by_indices bound rest) same
      ∙ bind_agrees (repetition named values e) (by_indices bound rest) (by_names bound rest) (λ next is.
      effects_agree bound rest parts.rest next
      (IfOk-at_ok (Fits (scope_of m)) is (repetition_keeps (Fits (scope_of m)) named values e keeps fit))))
  effects_agree bound (Changes c offset x collection rest) accepted e fit =
      let q = collection.number in
      let parts = accepted_change (known bound) c offset x collection rest accepted in
      let target = held_changed bound e fit (discipline_of_change c) collection parts.target in
      value_follows bound e fit Number x _ (λ v. changing (scope_of m) c q (number_of v) e)
      (by_indices bound rest) (by_names bound rest) parts.value (λ v is. change_agrees (scope_of m) s e fit q c v target is)
      (λ v. kept.changes c q (number_of v) e fit) (effects_agree bound rest parts.rest)

-- ---- Rules and holds

module _ (m : AtomicTree) (none : atomic_refusals m ≡ []) where
  abbrev RuleAgrees : RuleTree → Type 0
  RuleAgrees r = (arrivals : Arrivals) (s : State) → fits m s ≡ true
      → rule_effect (rule_shape (scope_of m) r.sort) arrivals (rule_tree m r.body) s ≡ effect_of (scope_of m) r.body arrivals s

  abbrev TicksAgree : NamedExpression → Type 0
  TicksAgree e = (s : State) → fits m s ≡ true
      → value_of nothing_arrived [] s (hold_tree m e) ≡ meaning (scope_of m) (moment_in (outermost nothing_arrived) s) e

  pub rules_agree : All RuleAgrees m.rules
  rules_agree = each_rule m none RuleAgrees (λ r accepted arrivals s fit.
      let start = first_effect (rule_shape (scope_of m) r.sort) s in
      effects_agree m none r.sort arrivals [] r.body accepted start (record { state = fit; goto = tt }))

  pub holds_agree : All (λ (h : HoldTree). IfSome h.ticks TicksAgree) m.holds
  holds_agree = each_hold m none TicksAgree (λ e accepted s fit.
      value_agrees m none None nothing_arrived [] s fit e Number (index_typed (known_in m) Number e accepted))
