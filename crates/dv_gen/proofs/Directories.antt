-- The first rules and holds of phases, one item more at a time.
use Rattle.std.proofs.Common.{◌≡◌, ℕ, ◌==◌, Bool, true, false, ◌&&◌, if◌then◌else◌, nat_eq, option_map, List, ◌∷◌, Option, Some}
use Rattle.std.proofs.Common.{None, refl, sym, ap, ◌∙◌}
use Rattle.std.specs.Option.{option_or}
use Rattle.std.specs.Borrow.{Bor}
use Rattle.dv_check.specs.Tables.{no_value, with_first}
use Rattle.dv_syntax.specs.declared.tree.Stmt.{Stmt}
use Rattle.dv_syntax.specs.declared.tree.Ticks.{Ticks}
use Rattle.dv_syntax.specs.declared.tree.RuleSort.{RuleSort}
use Rattle.dv_syntax.specs.Trees.{Expression, HoldTree, RuleTree, Statements, statements_of, ticks_of}
use Rattle.dv_eval.specs.Scope.{hold_ticks, rule_of, same_sort, ticks_found}

-- what a directory has for a number, with one value more
pub added_at : {V : Type 0} (before after : ℕ → Option V) (n : ℕ) (v : V) → after ≡ with_first before n v
    → (q : ℕ) → after q ≡ option_or (before q) (if nat_eq n q then Some v else None)
unfolding with_first
added_at before after n v e q = ap (λ f. f q) e

-- ---- Rules

abbrev pub in_front : Option (Bor (List Stmt)) → Option Statements → Option Statements
in_front found rest = option_or (option_map (λ s. statements_of s.now) found) rest

abbrev one_if : {V : Type 0} → Bool → V → Option V
one_if b v = if b then Some v else None

new_rule : (b : Bool) (v : Bor (List Stmt)) (body : Statements) (rest : Option Statements) → statements_of v.now ≡ body
    → in_front (one_if b v) rest ≡ (if b then Some body else rest)
new_rule true v body rest is = ap (λ s. Some s) is
new_rule false v body rest is = refl

rule_of-first : (sort : RuleSort) (phase : ℕ) (r : RuleTree) (rules : List RuleTree) → same_sort r.sort sort ≡ true
    → rule_of sort phase (r ∷ rules) ≡ (if r.phase.number == phase then Some r.body else rule_of sort phase rules)
rule_of-first sort phase r rules same = ap (λ b. if b && (r.phase.number == phase) then Some r.body else rule_of sort phase rules) same

-- a rule of the sort is kept, unless there is one
pub rule_kept : (sort : RuleSort) (phase : ℕ) (r : RuleTree) (rules : List RuleTree) (before after : Option (Bor (List Stmt)))
    (v : Bor (List Stmt))
    → same_sort r.sort sort ≡ true → statements_of v.now ≡ r.body → after ≡ option_or before (one_if (nat_eq r.phase.number phase) v)
    → in_front after (rule_of sort phase rules) ≡ in_front before (rule_of sort phase (r ∷ rules))
rule_kept sort phase r rules (Some s) after v same is step = ap (λ found. in_front found (rule_of sort phase rules)) step
rule_kept sort phase r rules None after v same is step =
    ap (λ found. in_front found (rule_of sort phase rules)) step
    ∙ new_rule (nat_eq r.phase.number phase) v r.body (rule_of sort phase rules) is
    ∙ sym (rule_of-first sort phase r rules same)

-- a rule of another sort counts for nothing
pub rule_passed : (sort : RuleSort) (phase : ℕ) (r : RuleTree) (rules : List RuleTree) → same_sort r.sort sort ≡ false
    → rule_of sort phase rules ≡ rule_of sort phase (r ∷ rules)
rule_passed sort phase r rules other =
    sym (ap (λ b. if b && (r.phase.number == phase) then Some r.body else rule_of sort phase rules) other)

-- ---- Holds

abbrev pub ticks_or : Option (Bor Ticks) → Option Expression → Option Expression
ticks_or None rest = rest
ticks_or (Some t) rest = ticks_of t.now

new_hold : (b : Bool) (t : Bor Ticks) (ticks rest : Option Expression) → ticks_of t.now ≡ ticks
    → ticks_or (one_if b t) rest ≡ (if b then ticks else rest)
new_hold true t ticks rest is = is
new_hold false t ticks rest is = refl

-- a hold is kept, unless there is one
pub hold_kept : (phase : ℕ) (h : HoldTree) (holds : List HoldTree) (before after : Option (Bor Ticks)) (t : Bor Ticks)
    → ticks_of t.now ≡ h.ticks → after ≡ option_or before (one_if (nat_eq h.phase.number phase) t)
    → ticks_or after (hold_ticks phase holds) ≡ ticks_or before (hold_ticks phase (h ∷ holds))
hold_kept phase h holds (Some s) after t is step = ap (λ found. ticks_or found (hold_ticks phase holds)) step
hold_kept phase h holds None after t is step =
    ap (λ found. ticks_or found (hold_ticks phase holds)) step
    ∙ new_hold (nat_eq h.phase.number phase) t h.ticks (hold_ticks phase holds) is

pub ticks_or-none : (found : Option (Bor Ticks)) → ticks_or found None ≡ ticks_found (option_map (λ t. t.now) found)
ticks_or-none None = refl
ticks_or-none (Some t) = refl

pub in_front-none : (found : Option (Bor (List Stmt))) → in_front found None ≡ option_map (λ s. statements_of s.now) found
in_front-none None = refl
in_front-none (Some s) = refl

-- nothing is found in a directory that has no value
pub in_front_nothing : (rest : Option Statements) (phase : ℕ) → in_front (no_value phase) rest ≡ rest
unfolding no_value
in_front_nothing rest phase = refl

pub ticks_or_nothing : (rest : Option Expression) (phase : ℕ) → ticks_or (no_value phase) rest ≡ rest
unfolding no_value
ticks_or_nothing rest phase = refl
