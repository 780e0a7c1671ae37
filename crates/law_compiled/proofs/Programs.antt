-- The programs of an accepted model give what its rules and its holds mean.
use Rattle.std.proofs.Common.{◌≡◌, ℕ, ◌*◌, ◌^◌, ◌≤◌, true, List, [], ◌∷◌, get_or, length, Result, Ok, Err, IfSome, refl, sym}
use Rattle.std.proofs.Common.{ap, subst, ◌∙◌, arith}
use Rattle.std.specs.List.{All}
use Rattle.dv_syntax.specs.Grammar.{loop_depth}
use Rattle.dv_syntax.specs.Trees.{AtomicTree, Done, Expression, HoldTree, RuleTree, Statements}
use Rattle.dv_syntax.specs.declared.tree.RuleSort.{RuleSort}
use Rattle.dv_bag.specs.Arrivals.{AreFew, Arrivals, nothing_arrived}
use Rattle.dv_bag.specs.Outcome.{◌>>=◌}
use Rattle.dv_bag.specs.Limits.{greatest_count}
use Rattle.dv_bag.specs.declared.fault.Fault.{Fault}
use Rattle.dv_bag.specs.declared.state.Effect.{Effect}
use Rattle.dv_bag.specs.declared.state.State.{State}
use Rattle.dv_bag.specs.declared.value.Value.{Value}
use Rattle.dv_bag.specs.declared.value.Value.TheVariants as value
use Rattle.dv_bag.specs.declared.value.ValueType.{ValueType}
use Rattle.dv_bag.specs.declared.value.ValueType.TheVariants.{Number}
use Rattle.dv_code.specs.Machine.{Outcome, begins, first_effect, run}
use Rattle.dv_code.specs.Outcomes.{effect_at_end, number_at_end, outcome_of}
use Rattle.dv_code.specs.Runs.{Ends, IsOver}
use Rattle.dv_code.specs.Shape.{AreSmall, Fits, Shape, left_by}
use Rattle.dv_code.specs.Valid.{EndsWell, IsSafe, IsValid, Program}
use Rattle.dv_code.specs.Limits.{deepest_loops}
use Rattle.dv_eval.specs.Meaning.{effect_of, meaning, moment_in, number_of, outermost, ticks_from}
use Rattle.dv_eval.specs.Scope.{hold_ticks, rule_of, scope_of}
use Rattle.law_accepted.specs.Fitting.{fits}
use Rattle.dv_gen.specs.Emission.{IsHoldTicks, IsRuleBody}
use Rattle.dv_gen.specs.Generator.{ending, hold_ending, hold_program_of, program_of}
use Rattle.dv_gen.specs.ModelCode.{hold_program, rule_program}
use Rattle.dv_gen.specs.Resolution.{hold_shape, hold_tree, rule_shape, rule_tree, tables_of}
use Rattle.dv_gen.specs.Resolved.{AreTyped, Expression as Resolved, IsTyped, Statements as AllResolved, type_of}
use Rattle.dv_gen.proofs.Compiled.{if_both}
use Rattle.dv_gen.proofs.Found.{hold_ticks-All, rule_of-All}
use Rattle.dv_gen.proofs.Programs.{hold_is_safe, rule_is_safe}
use Rattle.law_compiled.proofs.Agreeing.{GivesEffects, GivesTicks}
use Rattle.law_compiled.proofs.Floods.{nothing_is_few}

-- ---- Ends of runs

rule_over : (r : Result Effect Fault) → IsOver (ending r)
rule_over (Ok e) = tt
rule_over (Err f) = tt

effect_at_ending : (otherwise : Effect) (r : Result Effect Fault) → effect_at_end otherwise (ending r) ≡ r
effect_at_ending otherwise (Ok e) = refl
effect_at_ending otherwise (Err f) = refl

hold_over : (e : Effect) (r : Result Value Fault) → IsOver (hold_ending e r)
hold_over e (Ok v) = tt
hold_over e (Err f) = tt

-- a run that leaves a number gives its ticks
ticks_at_ending : (shape : Shape) (e : Effect) (r : Result Value Fault) → EndsWell shape (Number ∷ []) (hold_ending e r)
    → (number_at_end (hold_ending e r) >>= ticks_from) ≡ (r >>= λ v. ticks_from (number_of v))
ticks_at_ending shape e (Ok (value.Number n)) well = refl
ticks_at_ending shape e (Ok (value.Truth b)) well = absurd well.0.0
ticks_at_ending shape e (Err f) well = refl

module _ (m : AtomicTree)
    (outcome : (p : Program) → IsSafe p → (arrivals : Arrivals) → AreFew arrivals.received → (s : State)
    → Fits p.shape.slots s.variables → (n : ℕ) (end : Outcome) → run p.shape p.code arrivals n (begins p.shape s) ≡ end
    → IsOver end → outcome_of p arrivals s ≡ end)
    (slots : (s : State) → fits m s ≡ true → Fits (tables_of (scope_of m)).slots s.variables)
    (small : AreSmall (tables_of (scope_of m)).slots) where
  module _ (valid : (shape : Shape) (depth : ℕ) (body : AllResolved) → AreTyped shape depth 0 body
      → IsValid shape [] depth (program_of body)) where
    -- a run of the program of a rule's statements ends with their effect
    abbrev EndsWithEffect : RuleSort → Statements → Type 0
    EndsWithEffect sort body = (arrivals : Arrivals) (s : State) → fits m s ≡ true
        → (n : ℕ) × (run (rule_shape (scope_of m) sort) (program_of (rule_tree m body)) arrivals n
        (begins (rule_shape (scope_of m) sort) s)
        ≡ ending (effect_of (scope_of m) body arrivals s))

    rule_gives : (sort : RuleSort) (body : Statements) → IsRuleBody (scope_of m) sort body → EndsWithEffect sort body
        → GivesEffects m sort body
    rule_gives sort body is ends arrivals few s fit =
        let p = rule_program m sort body in
        let meant = effect_of (scope_of m) body arrivals s in
        let end = ends arrivals s fit in
        ap (effect_at_end (first_effect p.shape s))
        (outcome p (rule_is_safe valid (scope_of m) sort body is small) arrivals few s (slots s fit) end.0 (ending meant) end.1
        (rule_over meant))
        ∙ effect_at_ending (first_effect p.shape s) meant

    pub empty_rules_give : (sort : RuleSort) → GivesEffects m sort Done
    empty_rules_give sort = rule_gives sort Done (record { shallow = omega arith; typed = tt }) (λ arrivals s fit. (1, refl))

    pub rules_give :
        All (λ (r : RuleTree). AreTyped (rule_shape (scope_of m) r.sort) (loop_depth r.body) 0 (rule_tree m r.body)) m.rules
        → All (λ (r : RuleTree). loop_depth r.body ≤ deepest_loops) m.rules
        → All (λ (r : RuleTree). EndsWithEffect r.sort r.body) m.rules
        → (sort : RuleSort) (phase : ℕ) → IfSome (rule_of sort phase m.rules) (GivesEffects m sort)
    rules_give typed shallow ends sort phase =
        rule_of-All (GivesEffects m) sort phase m.rules
        (λ k d within. let r = get_or m.rules k d in
        rule_gives r.sort r.body (record { shallow = shallow k d within; typed = typed k d within }) (ends k d within))

  module _ (valid : (shape : Shape) (e : Resolved) → IsTyped shape 0 e → IsValid shape (type_of e ∷ []) 0 (hold_program_of e))
      (well : (p : Program) (left : List ValueType) (depth : ℕ) → IsValid p.shape left depth p.code → AreSmall p.shape.slots
      → (arrivals : Arrivals) → AreFew arrivals.received → (s : State) → Fits p.shape.slots s.variables
      → (n : ℕ) × (end : Outcome) × Ends p arrivals s n end × (n ≤ length p.code * greatest_count ^ depth)
      × EndsWell p.shape left end) where
    abbrev value_in : Expression → State → Result Value Fault
    value_in e s = meaning (scope_of m) (moment_in (outermost nothing_arrived) s) e

    -- a run of the program of a hold's expression ends with its value
    abbrev EndsWithValue : Expression → Type 0
    EndsWithValue e = (s : State) → fits m s ≡ true
        → (n : ℕ) × (run (hold_shape (scope_of m)) (hold_program_of (hold_tree m e)) nothing_arrived n
        (begins (hold_shape (scope_of m)) s)
        ≡ hold_ending (first_effect (hold_shape (scope_of m)) s) (value_in e s))

    hold_gives : (e : Expression) → IsHoldTicks (scope_of m) e → EndsWithValue e → GivesTicks m e
    hold_gives e is ends s fit =
        let p = hold_program m e in
        let first = first_effect p.shape s in
        let safe = hold_is_safe valid (scope_of m) e is small in
        let end = ends s fit in
        let given = outcome p safe nothing_arrived nothing_is_few s (slots s fit) in
        let meant = given end.0 (hold_ending first (value_in e s)) end.1 (hold_over first (value_in e s)) in
        let ended = well p (left_by p.shape.sort) deepest_loops safe.0 safe.1 nothing_arrived nothing_is_few s (slots s fit) in
        let same = sym (given ended.0 ended.1 ended.2.last ended.2.over) ∙ meant in
        ap (λ (o : Outcome). number_at_end o >>= ticks_from) meant
        ∙ ticks_at_ending p.shape first (value_in e s) (subst (EndsWell p.shape (Number ∷ [])) same ended.4)

    pub holds_give : All (λ (h : HoldTree). IfSome h.ticks
        (λ e. (type_of (hold_tree m e) ≡ Number) × IsTyped (hold_shape (scope_of m)) 0 (hold_tree m e))) m.holds
        → All (λ (h : HoldTree). IfSome h.ticks EndsWithValue) m.holds
        → (phase : ℕ) → IfSome (hold_ticks phase m.holds) (GivesTicks m)
    holds_give typed ends phase =
        hold_ticks-All (GivesTicks m) phase m.holds
        (λ k d within. if_both _ EndsWithValue (GivesTicks m)
        (λ e both. hold_gives e (record { number = both.0; typed = both.1 }))
        (get_or m.holds k d).ticks (typed k d within) (ends k d within))
