-- A model with one rule, by its declarations and its rule.
use Rattle.std.specs.Prelude.{ℕ, ◌+◌, List, [], ◌∷◌, false, Option, Some, None}
use Rattle.dv_lex.specs.declared.error.Refusal.{Refusal}
use Rattle.dv_syntax.specs.declared.tree.Name.{Name}
use Rattle.dv_syntax.specs.declared.tree.Declaration.{Declaration}
use Rattle.dv_syntax.specs.declared.tree.Declaration.TheVariants.{In, Flag, Held}
use Rattle.dv_syntax.specs.declared.tree.RuleSort.{RuleSort}
use Rattle.dv_syntax.specs.declared.tree.RuleSort.TheVariants as rule
use Rattle.dv_syntax.specs.Trees.{Expression, Literal, Statements, Done, For, AtomicTree}
use Rattle.dv_bag.specs.declared.discipline.Discipline.{Discipline}
use Rattle.dv_bag.specs.declared.discipline.Discipline.TheVariants as discipline
use Rattle.dv_check.specs.Rules.{atomic_refusals}

-- the names: 0 Heap, 1 v, 2 b, 3 z, 4 w
abbrev pub name_at : ℕ → ℕ → Name
name_at number offset = record { number = number; offset = offset }

-- bag NAME CAPACITY; and queue NAME CAPACITY;
abbrev pub collection_at : Discipline → ℕ → ℕ → ℕ → Declaration
collection_at d number offset capacity =
    Held (record { discipline = d; name = name_at number offset; capacity = record { value = capacity; offset = offset + 2 } })

abbrev pub bag_at : ℕ → ℕ → ℕ → Declaration
bag_at = collection_at discipline.Bag

abbrev pub queue_at : ℕ → ℕ → ℕ → Declaration
queue_at = collection_at discipline.Queue

-- flag NAME = false;
abbrev pub flag_at : ℕ → ℕ → Declaration
flag_at number offset = Flag (record { name = name_at number offset; start = false })

-- in NAME;
abbrev pub input_at : ℕ → ℕ → Declaration
input_at number offset = In (name_at number offset)

abbrev pub one_at : ℕ → Expression
one_at offset = Literal (record { value = 1; offset = offset })

-- for NAME in BAG { .. } and what follows
abbrev pub loop_at : ℕ → ℕ → ℕ → Statements → Statements → Statements
loop_at offset variable bag block rest = For offset (name_at variable (offset + 4)) (name_at bag (offset + 9)) block rest

-- atomic Heap { phases z; start z; hold z: TICKS; SORT z { .. } } and the declarations
abbrev pub heap_held : Option Expression → List Declaration → RuleSort → Statements → AtomicTree
heap_held ticks declarations sort body = record {
  name = name_at 0 7;
  declarations = declarations;
  phases = record { offset = 40; names = name_at 3 47 ∷ [] } ∷ [];
  starts = record { offset = 50; phase = name_at 3 56 } ∷ [];
  holds = record { offset = 60; phase = name_at 3 65; ticks = ticks } ∷ [];
  rules = record { sort = sort; phase = name_at 3 89; body = body } ∷ [];
}

-- the same with hold z: forever;
abbrev pub heap : List Declaration → RuleSort → Statements → AtomicTree
heap declarations sort body = heap_held None declarations sort body

-- what is wrong with bag b 8; before these declarations and this rule
abbrev pub wrong_under : RuleSort → List Declaration → Statements → List Refusal
wrong_under sort declarations body = atomic_refusals (heap (bag_at 2 15 8 ∷ declarations) sort body)

-- with an internal rule, and with an output rule
abbrev pub wrong_inside : List Declaration → Statements → List Refusal
wrong_inside declarations body = wrong_under rule.Internal declarations body

abbrev pub wrong_outside : List Declaration → Statements → List Refusal
wrong_outside declarations body = wrong_under rule.Output declarations body

-- with an internal rule, and queue v 8; behind it
abbrev pub wrong_queued : Statements → List Refusal
wrong_queued body = wrong_inside (queue_at 1 30 8 ∷ []) body

-- with an empty rule, and this hold
abbrev pub wrong_held : List Declaration → Expression → List Refusal
wrong_held declarations ticks = atomic_refusals (heap_held (Some ticks) declarations rule.Internal Done)
