-- Where the programs of external rules go, and the holds that begin there.
use Rattle.std.proofs.Common.{◌≡◌, ℕ, Bool, true, false, ◌&&◌, ◌==◌, cond, List, [], ◌∷◌, ◌++◌, map, Option, Some, Ok, sym, ap, ◌∙◌, subst}
use Rattle.std.specs.Option.{unwrap_or}
use Rattle.std.specs.List.{AllByRecursion, flat_map}
use Rattle.std.proofs.lemmas.Bool.{and_parts}
use Rattle.dv_syntax.specs.Trees.{AtomicTree, RuleTree}
use Rattle.dv_syntax.specs.Trees.{Statements, Done, Assign, Does, Send, If, IfElse, For, Changes}
use Rattle.dv_syntax.specs.declared.tree.Command.{Command}
use Rattle.dv_syntax.specs.declared.tree.Command.TheVariants as command
use Rattle.dv_syntax.specs.declared.tree.Name.{Name}
use Rattle.dv_syntax.specs.declared.tree.RuleSort.{RuleSort}
use Rattle.dv_syntax.specs.declared.tree.RuleSort.TheVariants.{External}
use Rattle.dv_bag.specs.Collections.{discipline_of_change}
use Rattle.dv_bag.specs.Numbers.{HoldsNumbers}
use Rattle.dv_bag.specs.declared.state.State.{State}
use Rattle.dv_eval.specs.Meaning.{hold_of}
use Rattle.dv_eval.specs.Scope.{Scope, hold_ticks, is_declared, phase_name, index_of, rule_body, rule_of, same_sort, scope_of}
use Rattle.dv_check.specs.declared.wanted.Wanted.TheVariants as wanted
use Rattle.law_accepted.specs.Fitting.{are_names_known, are_terms_known, fits, is_assignable, is_command_known, is_held, is_readable}
use Rattle.law_accepted.specs.Fitting.{wanted_of}
use Rattle.law_accepted.specs.Gotos.{goto_of, gotos_in}
use Rattle.law_accepted.proofs.Fitting.{HasIndex, index_of_declared}
use Rattle.law_accepted.proofs.Keeping.{all_parts}
use Rattle.dv_gen.specs.Generator.{goes, program_of}
use Rattle.dv_gen.specs.ModelCode.{phase_code, phase_codes}
use Rattle.dv_gen.specs.Resolution.{goto_indices, index_or_first, rule_tree}
use Rattle.dv_gen.specs.declared.model_code.PhaseCode.{PhaseCode}
use Rattle.dv_bound.specs.Response.{IsNotBelow, external_gotos_in, response_of}
use Rattle.dv_bound.proofs.Names.{name_at}
use Rattle.dv_plain.specs.Source.{behaviour_of}
use Rattle.law_compiled.specs.Behaviours.{behaviour_by}
use Rattle.law_sound.specs.Kept.{are_kept, fits_kept}
use Rattle.law_sound.proofs.Soundness.{all_held}

module _ (P : ℕ → Type 0) where
  joined : (a b : List ℕ) → AllByRecursion P a → AllByRecursion P b → AllByRecursion P (a ++ b)
  joined [] b h k = k
  joined (n ∷ a) b h k = (h.0, joined a b h.1 k)

  -- of the phases to which external rules go, those of one phase's rule
  of_body : (phase : ℕ) (rules : List RuleTree) → AllByRecursion P (flat_map external_gotos_in rules) →
      AllByRecursion P (gotos_in (rule_body External phase rules))
  of_body phase [] h = tt
  of_body phase (r ∷ rules) h = by_tests (same_sort r.sort External) (r.phase.number == phase) h (of_body phase rules)
    where
      by_tests : (b c : Bool) → AllByRecursion P (cond b (gotos_in r.body) [] ++ flat_map external_gotos_in rules) →
          (AllByRecursion P (flat_map external_gotos_in rules) → AllByRecursion P (gotos_in (rule_body External phase rules))) →
          AllByRecursion P (gotos_in (unwrap_or (cond (b && c) (Some r.body) (rule_of External phase rules)) Done))
      by_tests true true h later = let both = all_parts P (gotos_in r.body) (flat_map external_gotos_in rules) h in both.0
      by_tests true false h later = let both = all_parts P (gotos_in r.body) (flat_map external_gotos_in rules) h in later both.1
      by_tests false c h later = later h

-- the phases to which statements go are declared
module _ (scope : Scope) where
  abbrev IsDeclared : ℕ → Type 0
  IsDeclared name = is_declared name scope.phases ≡ true

  goto_declared : (c : Command) (name : Name) → is_command_known scope c name.number ≡ true → AllByRecursion IsDeclared (goto_of c name)
  goto_declared command.Goto name h = (h, tt)
  goto_declared command.Pop name h = tt

  all_declared : (rule : Option RuleSort) (loops : List ℕ) (body : Statements) → are_names_known scope rule loops body ≡ true →
      AllByRecursion IsDeclared (gotos_in body)
  all_declared rule loops Done h = tt
  all_declared rule loops (Assign v e rest) h =
      let first = and_parts (is_assignable scope loops v.number)
      (are_terms_known scope rule loops e && are_names_known scope rule loops rest) h in
      let second = and_parts (are_terms_known scope rule loops e) (are_names_known scope rule loops rest) first.1 in
      all_declared rule loops rest second.1
  all_declared rule loops (Does c offset name rest) h =
      let first = and_parts (is_command_known scope c name.number) (are_names_known scope rule loops rest) h in
      joined IsDeclared (goto_of c name) (gotos_in rest) (goto_declared c name first.0) (all_declared rule loops rest first.1)
  all_declared rule loops (Send offset port e rest) h =
      let first = and_parts (is_declared port.number scope.outputs)
      (are_terms_known scope rule loops e && are_names_known scope rule loops rest) h in
      let second = and_parts (are_terms_known scope rule loops e) (are_names_known scope rule loops rest) first.1 in
      all_declared rule loops rest second.1
  all_declared rule loops (If offset e block rest) h =
      let first = and_parts (are_terms_known scope rule loops e)
      (are_names_known scope rule loops block && are_names_known scope rule loops rest) h in
      let second = and_parts (are_names_known scope rule loops block) (are_names_known scope rule loops rest) first.1 in
      joined IsDeclared (gotos_in block) (gotos_in rest) (all_declared rule loops block second.0) (all_declared rule loops rest second.1)
  all_declared rule loops (IfElse offset e block other rest) h =
      let first = and_parts (are_terms_known scope rule loops e)
      (are_names_known scope rule loops block && (are_names_known scope rule loops other && are_names_known scope rule loops rest)) h in
      let second = and_parts (are_names_known scope rule loops block)
      (are_names_known scope rule loops other && are_names_known scope rule loops rest) first.1 in
      let third = and_parts (are_names_known scope rule loops other) (are_names_known scope rule loops rest) second.1 in
      joined IsDeclared (gotos_in block) (gotos_in other ++ gotos_in rest) (all_declared rule loops block second.0)
      (joined IsDeclared (gotos_in other) (gotos_in rest) (all_declared rule loops other third.0) (all_declared rule loops rest third.1))
  all_declared rule loops (For offset v b block rest) h =
      let first = and_parts (is_readable wanted.Values scope rule b.number)
      (are_names_known scope rule (v.number ∷ loops) block && are_names_known scope rule loops rest) h in
      let second = and_parts (are_names_known scope rule (v.number ∷ loops) block) (are_names_known scope rule loops rest) first.1 in
      joined IsDeclared (gotos_in block) (gotos_in rest) (all_declared rule (v.number ∷ loops) block second.0)
      (all_declared rule loops rest second.1)
  all_declared rule loops (Changes c offset e x rest) h =
      let target = is_held (wanted_of (discipline_of_change c)) scope x.number in
      let first = and_parts (are_terms_known scope rule loops e) (target && are_names_known scope rule loops rest) h in
      let second = and_parts target (are_names_known scope rule loops rest) first.1 in
      all_declared rule loops rest second.1

  body_declared : (phase : ℕ) (rules : List RuleTree) →
      AllByRecursion (λ (r : RuleTree). are_names_known scope (Some r.sort) [] r.body ≡ true) rules →
      AllByRecursion IsDeclared (gotos_in (rule_body External phase rules))
  body_declared phase [] h = tt
  body_declared phase (r ∷ rules) h =
      by_test (same_sort r.sort External && (r.phase.number == phase)) (all_declared (Some r.sort) [] r.body h.0)
      (body_declared phase rules h.1)
    where
      by_test : (t : Bool) → AllByRecursion IsDeclared (gotos_in r.body) →
          AllByRecursion IsDeclared (gotos_in (rule_body External phase rules)) →
          AllByRecursion IsDeclared (gotos_in (unwrap_or (cond t (Some r.body) (rule_of External phase rules)) Done))
      by_test true first rest = first
      by_test false first rest = rest

-- the hold of a phase is not below the response, by rules and by programs
module _ (m : AtomicTree)
    (same : (s : State) → fits m s ≡ true → (behaviour_of m).hold s ≡ (behaviour_by (phase_codes m)).hold s) where
  abbrev RespondsBy : ℕ → Type 0
  RespondsBy name =
      (s : State) (ticks : ℕ) → fits m s ≡ true → HoldsNumbers s.variables →
      hold_of (scope_of m) (hold_ticks name m.holds) s ≡ Ok (Some ticks) → IsNotBelow (response_of m) ticks

  abbrev pub RespondsAt : ℕ → Type 0
  RespondsAt offset =
      (s : State) (ticks : ℕ) → fits_kept m s ≡ true → s.phase ≡ offset →
      (behaviour_by (phase_codes m)).hold s ≡ Ok (Some ticks) → IsNotBelow (response_of m) ticks

  at_index : (name : ℕ) → HasIndex name (scope_of m).phases → RespondsBy name →
      RespondsAt (index_or_first (index_of name (scope_of m).phases))
  at_index name has responds s ticks fit here held =
      let parts = and_parts (fits m s) (are_kept s.variables) fit in
      let index : s.phase ≡ has.index = here ∙ ap index_or_first has.found in
      let named : phase_name (scope_of m) s.phase ≡ name =
      ap (phase_name (scope_of m)) index ∙ name_at name has.index (scope_of m).phases has.found in
      responds s ticks parts.0 (all_held s.variables parts.1)
      (ap (λ (n : ℕ). hold_of (scope_of m) (hold_ticks n m.holds) s) (sym named) ∙ same s parts.0 ∙ held)

  at_indices : (names : List ℕ) → AllByRecursion (IsDeclared (scope_of m)) names → AllByRecursion RespondsBy names →
      AllByRecursion RespondsAt (map (λ name. index_or_first (index_of name (scope_of m).phases)) names)
  at_indices [] h k = tt
  at_indices (n ∷ names) h k = (at_index n (index_of_declared n (scope_of m).phases h.0) k.0, at_indices names h.1 k.1)

  pub all_respond : ((r : RuleTree) → goes (program_of (rule_tree m r.body)) ≡ goto_indices (scope_of m) r.body) →
      AllByRecursion (λ (r : RuleTree). are_names_known (scope_of m) (Some r.sort) [] r.body ≡ true) m.rules →
      AllByRecursion RespondsBy (flat_map external_gotos_in m.rules) → (phases : List ℕ) →
      AllByRecursion (λ (c : PhaseCode). AllByRecursion RespondsAt (goes c.external.code)) (map (phase_code m) phases)
  all_respond lead known responds [] = tt
  all_respond lead known responds (p ∷ phases) =
      let body = rule_body External p m.rules in
      let name : Name = record { number = p; offset = 0 } in
      let rule : RuleTree = record { sort = External; phase = name; body = body } in (
        subst (AllByRecursion RespondsAt) (sym (lead rule))
            (at_indices (gotos_in body) (body_declared (scope_of m) p m.rules known) (of_body RespondsBy p m.rules responds)),
        all_respond lead known responds phases,
      )
