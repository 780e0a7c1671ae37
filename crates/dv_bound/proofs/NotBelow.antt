-- The holds that begin where external rules go are not below the response.
use Rattle.std.proofs.Common.{◌≡◌, ℕ, ◌==◌, length, replicate, Bool, true, false, ◌&&◌, if◌then◌else◌, List, [], ◌∷◌, ◌++◌}
use Rattle.std.proofs.Common.{unwrap_or, Option, Some, None, Ok, IfSome, refl, sym, subst, arith}
use Rattle.std.specs.List.{AllByRecursion, flat_map}
use Rattle.std.proofs.lemmas.Result.{IfOk-at_ok}
use Rattle.dv_syntax.specs.declared.tree.RuleSort.TheVariants.{External}
use Rattle.dv_syntax.specs.Trees.{AtomicTree, Done, RuleTree}
use Rattle.dv_bag.specs.Arrivals.{Arrivals}
use Rattle.dv_bag.specs.declared.state.State.{State}
use Rattle.dv_bag.specs.declared.state.Effect.{Effect}
use Rattle.dv_eval.specs.declared.scope.Domain.{Domain}
use Rattle.dv_eval.specs.Meaning.{effect_of, hold_of, outermost}
use Rattle.dv_eval.specs.Scope.{hold_ticks, phase_name, index_of, rule_body, rule_of, same_sort, scope_of}
use Rattle.law_accepted.specs.Fitting.{HoldsDatum, domain_named, in_phase}
use Rattle.dv_bag.specs.Numbers.{HoldsNumbers}
use Rattle.law_accepted.specs.Gotos.{gotos_in}
use Rattle.law_accepted.proofs.Keeping.{all_parts}
use Rattle.dv_time.specs.Time.{earlier}
use Rattle.dv_bound.specs.Response.{IsNotBelow, external_gotos, external_gotos_in, phase_response, response_of}
use Rattle.dv_bound.specs.Soonest.{soonest}
use Rattle.dv_bound.proofs.Names.{name_at}
use Rattle.dv_bound.proofs.Gotos.{run_leaves}
use Rattle.dv_bound.proofs.Values.{hold_not_below}

-- ---- The soonest of responses

-- a response that is no later than another: a hold that is not below that one is not below it
abbrev pub IsNoLater : Option ℕ → Option ℕ → Type 0
IsNoLater a b = (ticks : ℕ) → IsNotBelow b ticks → IsNotBelow a ticks

earlier_left : (a b : Option ℕ) → IsNoLater (earlier a b) a
earlier_left None b ticks h = absurd h
earlier_left (Some a) None ticks h = h
earlier_left (Some a) (Some b) ticks h = omega arith

earlier_right : (a b : Option ℕ) → IsNoLater (earlier a b) b
earlier_right a None ticks h = absurd h
earlier_right None (Some b) ticks h = h
earlier_right (Some a) (Some b) ticks h = omega arith

module _ (response : ℕ → Option ℕ) where
  soonest_of_start : (start : Option ℕ) (phases : List ℕ) → IsNoLater (soonest response start phases) start
  soonest_of_start start [] = λ ticks h. h
  soonest_of_start start (p ∷ phases) = λ ticks h.
      soonest_of_start (earlier start (response p)) phases ticks (earlier_left start (response p) ticks h)

  soonest_of_each : (start : Option ℕ) (phases : List ℕ)
      → AllByRecursion (λ phase. IsNoLater (soonest response start phases) (response phase)) phases
  soonest_of_each start [] = tt
  soonest_of_each start (p ∷ phases) =
      let now = earlier start (response p) in
      (λ ticks h. soonest_of_start now phases ticks (earlier_right start (response p) ticks h), soonest_of_each now phases)

-- ---- The gotos of the rule of a phase

all_of_rule : (P : ℕ → Type 0) (phase : ℕ) (rules : List RuleTree) → AllByRecursion P (flat_map external_gotos_in rules)
    → AllByRecursion P (gotos_in (rule_body External phase rules))
all_of_rule P phase [] all = tt
all_of_rule P phase (r ∷ rules) all = by (same_sort r.sort External) (r.phase.number == phase) all (all_of_rule P phase rules)
  where
    by : (b c : Bool) → AllByRecursion P ((if b then gotos_in r.body else []) ++ flat_map external_gotos_in rules)
        → (AllByRecursion P (flat_map external_gotos_in rules) → AllByRecursion P (gotos_in (rule_body External phase rules)))
        → AllByRecursion P (gotos_in (unwrap_or (if b && c then Some r.body else rule_of External phase rules) Done))
    by true true all later = (all_parts P (gotos_in r.body) _ all).0
    by true false all later = later (all_parts P (gotos_in r.body) _ all).1
    by false c all later = later all

-- ---- Where a goto leads

module _ (m : AtomicTree) where
  -- the response of the model is no later than that of the phase to which a goto leads
  abbrev pub Counts : Option ℕ → Type 0
  Counts goto = IfSome goto (λ index. IsNoLater (response_of m) (phase_response m (phase_name (scope_of m) index)))

  goto_counts : (name : ℕ) (o : Option ℕ) → index_of name (scope_of m).phases ≡ o → IsNoLater (response_of m) (phase_response m name)
      → Counts o
  goto_counts name None e no_later = tt
  goto_counts name (Some index) e no_later =
      subst (λ q. IsNoLater (response_of m) (phase_response m q)) (sym (name_at name index (scope_of m).phases e)) no_later

  gotos_count : (phases : List ℕ) → AllByRecursion (λ phase. IsNoLater (response_of m) (phase_response m phase)) phases
      → AllByRecursion (λ phase. Counts (index_of phase (scope_of m).phases)) phases
  gotos_count [] all = tt
  gotos_count (p ∷ phases) all = (goto_counts p (index_of p (scope_of m).phases) refl all.0, gotos_count phases all.1)

  -- the response is no later than that of each phase to which external rules go
  pub no_later_than_gotos : AllByRecursion (λ phase. IsNoLater (response_of m) (phase_response m phase)) (external_gotos m)
  no_later_than_gotos = soonest_of_each (phase_response m) None (external_gotos m)

  -- a hold of such a phase, in a state of the model that holds numbers of the language, is not below it
  pub hold_of_goto : (phase : ℕ) → IsNoLater (response_of m) (phase_response m phase) → (s : State)
      → ((name : ℕ) (d : Domain) → domain_named (scope_of m) name ≡ Some d → HoldsDatum (scope_of m) s name d)
      → HoldsNumbers s.variables
      → (ticks : ℕ) → hold_of (scope_of m) (hold_ticks phase m.holds) s ≡ Ok (Some ticks) → IsNotBelow (response_of m) ticks
  hold_of_goto phase no_later s held numbers ticks hold =
      no_later ticks (IfOk-at_ok (λ o. IfSome o (IsNotBelow (phase_response m phase))) hold
      (hold_not_below (scope_of m) s held numbers (hold_ticks phase m.holds)))

  pub hold_after_goto : (phase index ticks : ℕ) (arrivals : Arrivals) (s : State) (e : Effect)
      → ((name : ℕ) (d : Domain) → domain_named (scope_of m) name ≡ Some d → HoldsDatum (scope_of m) (in_phase e.state index) name d)
      → HoldsNumbers e.state.variables
      → effect_of (scope_of m) (rule_body External phase m.rules) arrivals s ≡ Ok e → e.goto ≡ Some index
      → hold_of (scope_of m) (hold_ticks (phase_name (scope_of m) index) m.holds) (in_phase e.state index) ≡ Ok (Some ticks)
      → IsNotBelow (response_of m) ticks
  hold_after_goto phase index ticks arrivals s e held numbers is goto hold =
      let each = gotos_count (external_gotos m) no_later_than_gotos in
      let all = all_of_rule _ phase m.rules each in
      let start : Effect = record { state = s; sent = replicate (length (scope_of m).outputs) []; goto = None } in
      let run = run_leaves Counts (scope_of m) (outermost arrivals) (rule_body External phase m.rules) start all tt in
      let left = IfOk-at_ok (λ (e : Effect). Counts e.goto) is run in
      let counts = subst Counts goto left in
      hold_of_goto (phase_name (scope_of m) index) counts (in_phase e.state index) held numbers ticks hold
