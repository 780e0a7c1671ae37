-- What holds of each rule and of each hold of a model holds of those that are found for a phase.
use Rattle.std.proofs.Common.{◌≡◌, ℕ, ◌≤◌, ◌==◌, Bool, true, false, ◌&&◌, if◌then◌else◌, List, [], ◌∷◌, get_or, Option, Some}
use Rattle.std.proofs.Common.{None, refl, subst, arith}
use Rattle.std.specs.Prelude.{IfSome}
use Rattle.std.specs.List.{All}
use Rattle.std.proofs.lemmas.List.Elements.{All-tail}
use Rattle.dv_syntax.specs.Trees.{AtomicTree, Expression, HoldTree, RuleTree, Statements}
use Rattle.dv_syntax.specs.Grammar.{loop_depth}
use Rattle.dv_syntax.specs.declared.tree.RuleSort.{RuleSort}
use Rattle.dv_syntax.specs.declared.tree.RuleSort.TheVariants.{Output, Internal, External, Confluent}
use Rattle.dv_bag.specs.declared.value.ValueType.TheVariants.{Number}
use Rattle.dv_code.specs.Limits.{deepest_loops}
use Rattle.dv_eval.specs.Scope.{hold_ticks, rule_of, same_sort, scope_of}
use Rattle.dv_gen.specs.Emission.{IsHoldTicks, IsRuleBody}
use Rattle.dv_gen.specs.Resolution.{hold_shape, hold_tree, rule_shape, rule_tree}
use Rattle.dv_gen.specs.Resolved.{AreTyped, IsTyped, type_of}

-- ---- Rules

same_sort-true : (a b : RuleSort) → same_sort a b ≡ true → a ≡ b
same_sort-true Output Output e = refl
same_sort-true Output Internal e = absurd (cc)
same_sort-true Output External e = absurd (cc)
same_sort-true Output Confluent e = absurd (cc)
same_sort-true Internal Output e = absurd (cc)
same_sort-true Internal Internal e = refl
same_sort-true Internal External e = absurd (cc)
same_sort-true Internal Confluent e = absurd (cc)
same_sort-true External Output e = absurd (cc)
same_sort-true External Internal e = absurd (cc)
same_sort-true External External e = refl
same_sort-true External Confluent e = absurd (cc)
same_sort-true Confluent Output e = absurd (cc)
same_sort-true Confluent Internal e = absurd (cc)
same_sort-true Confluent External e = absurd (cc)
same_sort-true Confluent Confluent e = refl

module _ (P : RuleSort → Statements → Type 0) (sort : RuleSort) where
  found_if : (same there : Bool) (r : RuleTree) (rest : Option Statements) → same_sort r.sort sort ≡ same → P r.sort r.body
      → IfSome rest (P sort)
      → IfSome (if same && there then Some r.body else rest) (P sort)
  found_if true true r rest e here later = subst (λ s. P s r.body) (same_sort-true r.sort sort e) here
  found_if true false r rest e here later = later
  found_if false there r rest e here later = later

  pub rule_of-All : (phase : ℕ) (rules : List RuleTree) → All (λ (r : RuleTree). P r.sort r.body) rules
      → IfSome (rule_of sort phase rules) (P sort)
  rule_of-All phase [] all = tt
  rule_of-All phase (r ∷ rules) all =
      found_if (same_sort r.sort sort) (r.phase.number == phase) r (rule_of sort phase rules) refl (all 0 r (omega arith))
      (rule_of-All phase rules (All-tail (λ (r : RuleTree). P r.sort r.body) r rules all))

-- ---- Holds

module _ (P : Expression → Type 0) where
  held_if : (there : Bool) (ticks rest : Option Expression) → IfSome ticks P → IfSome rest P → IfSome (if there then ticks else rest) P
  held_if true ticks rest here later = here
  held_if false ticks rest here later = later

  pub hold_ticks-All : (phase : ℕ) (holds : List HoldTree) → All (λ (h : HoldTree). IfSome h.ticks P) holds
      → IfSome (hold_ticks phase holds) P
  hold_ticks-All phase [] all = tt
  hold_ticks-All phase (h ∷ holds) all =
      held_if (h.phase.number == phase) h.ticks (hold_ticks phase holds) (all 0 h (omega arith))
      (hold_ticks-All phase holds (All-tail (λ (h : HoldTree). IfSome h.ticks P) h holds all))

-- ---- Of a model that is accepted

if_some : {A : Type 0} (P Q : A → Type 0) (o : Option A) → ((x : A) → P x → Q x) → IfSome o P → IfSome o Q
if_some P Q None f h = tt
if_some P Q (Some x) f h = f x h

module _ (m : AtomicTree) where
  pub found_bodies : All (λ (r : RuleTree). AreTyped (rule_shape (scope_of m) r.sort) (loop_depth r.body) 0 (rule_tree m r.body)) m.rules
      → All (λ (r : RuleTree). loop_depth r.body ≤ deepest_loops) m.rules
      → (sort : RuleSort) (phase : ℕ) → IfSome (rule_of sort phase m.rules) (IsRuleBody (scope_of m) sort)
  found_bodies typed shallow sort phase =
      rule_of-All (λ s body. IsRuleBody (scope_of m) s body) sort phase m.rules
      (λ k d within. record { shallow = shallow k d within; typed = typed k d within })

  pub found_ticks : All (λ (h : HoldTree). IfSome h.ticks
      (λ e. (type_of (hold_tree m e) ≡ Number) × IsTyped (hold_shape (scope_of m)) 0 (hold_tree m e))) m.holds
      → (phase : ℕ) → IfSome (hold_ticks phase m.holds) (IsHoldTicks (scope_of m))
  found_ticks typed phase =
      hold_ticks-All (IsHoldTicks (scope_of m)) phase m.holds
      (λ k d within. if_some (λ e. (type_of (hold_tree m e) ≡ Number) × IsTyped (hold_shape (scope_of m)) 0 (hold_tree m e))
      (IsHoldTicks (scope_of m))
      (get_or m.holds k d).ticks (λ e both. record { number = both.0; typed = both.1 }) (typed k d within))
