-- What the numbers of a trie's nodes stand for, and that equal stacks have one number.
use Rattle.std.proofs.Common.{◌≡◌, ℕ, zero, suc, ◌<◌, ◌≤◌, List, ◌∷◌, [], length, get_or, Option, Some, None, MatchOption, refl}
use Rattle.std.proofs.Common.{sym, ◌∙◌, ap, subst, arith}
use Rattle.std.proofs.lemmas.List.{get_or_read}
use Rattle.dv_bag.specs.declared.value.ValueType.{ValueType}
use Rattle.dv_valid.specs.Stacks.{IsTrie, Keeps, Stacks, link, node_at, stack_types, stacks_of, types_at}
use Rattle.dv_valid.specs.declared.stacks.Node.{Node}
use Rattle.dv_valid.specs.declared.stacks.Stack.{Stack}
use Rattle.dv_valid.specs.declared.stacks.Stack.TheVariants.{Empty, On}
use Rattle.dv_valid.proofs.Lists.{LiesBelow, length-stacks_after, stack_after, stack_types_same}

-- each node lies on one of a lower number
lies_below : (nodes : List Node) (is : IsTrie nodes) (k : ℕ) → LiesBelow k (node_at nodes k).stack
lies_below nodes is k = by (node_at nodes k).stack refl
  where
    by : (s : Stack) → (node_at nodes k).stack ≡ s → LiesBelow k s
    by Empty e = tt
    by (On top below) e = is.lower k below top e

-- A trie, and the stacks that its nodes stand for.
module _ (nodes : List Node) (stacks : Stacks) (is : IsTrie nodes) (view : stacks_of nodes ≡ stacks) where
  pub length-stacks : length stacks ≡ length nodes
  length-stacks = omega (arith, ap length view, length-stacks_after [] nodes)

  -- the node that is read
  pub node_read : (k : ℕ) (n : Node) → k < length stacks → n ≡ get_or nodes k n → n ≡ node_at nodes k
  node_read k n h e = let l = length-stacks in get_or_read nodes k n (omega arith) e _

  -- the types of a node's number
  pub types_of_node : (k : ℕ) → k < length stacks → types_at stacks k ≡ stack_types stacks (node_at nodes k).stack
  types_of_node k h =
      let l = length-stacks in
      subst (λ xs. types_at xs k ≡ stack_types xs (node_at nodes k).stack) view
      (stack_after [] nodes k k (omega arith) (omega arith) (lies_below nodes is k))

  -- the first stack is empty
  pub types_first : types_at stacks 0 ≡ []
  types_first = let l = length-stacks in types_of_node 0 (omega (arith, is.some)) ∙ ap (stack_types stacks) is.first

  -- a stack with nothing on top
  types_empty : (k : ℕ) → k < length stacks → (node_at nodes k).stack ≡ Empty → types_at stacks k ≡ []
  types_empty k h e = types_of_node k h ∙ ap (stack_types stacks) e

  -- a stack with something on top
  pub types_on : (k below : ℕ) (top : ValueType) → k < length stacks → (node_at nodes k).stack ≡ On top below
      → (below < length stacks) × (types_at stacks k ≡ top ∷ types_at stacks below)
  types_on k below top h e =
      let lower = is.lower k below top e in
      (omega arith, types_of_node k h ∙ ap (stack_types stacks) e)

  -- what is on top of the types is on top of the node
  top_of_node : (k : ℕ) (top : ValueType) (rest : List ValueType) → k < length stacks → types_at stacks k ≡ top ∷ rest
      → (s : Stack) → (node_at nodes k).stack ≡ s → (below : ℕ) × ((node_at nodes k).stack ≡ On top below)
  top_of_node k top rest h e Empty a = let f = types_empty k h a in absurd (cc)
  top_of_node k top rest h e (On t below) a =
      let f = types_on k below t h a in
      let same : t ≡ top = cc in
      (below, a ∙ ap (λ x. On x below) same)

  -- what the node says of the type on top, the types say
  pub types_below : (k : ℕ) (top : ValueType) (s : Stack) (r : Option ℕ) → k < length stacks → s ≡ (node_at nodes k).stack
      → MatchOption r ((below : ℕ) → s ≡ On top below → ⊥) (λ below. s ≡ On top below)
      → MatchOption r ((below : List ValueType) → types_at stacks k ≡ top ∷ below → ⊥)
      (λ below. (below < length stacks) × (types_at stacks k ≡ top ∷ types_at stacks below))
  types_below k top s None h e m = λ rest is_top.
      let found = top_of_node k top rest h is_top (node_at nodes k).stack refl in
      m found.0 (e ∙ found.1)
  types_below k top s (Some below) h e m = types_on k below top h (sym e ∙ m)

  -- equal types have one number, where those of lower numbers have
  same_stack : (k j : ℕ) → k < length stacks → j < length stacks → types_at stacks k ≡ types_at stacks j
      → ((p q : ℕ) → p < k → q < j → types_at stacks p ≡ types_at stacks q → p ≡ q)
      → (s u : Stack) → (node_at nodes k).stack ≡ s → (node_at nodes j).stack ≡ u → k ≡ j
  same_stack k j h i e lower Empty Empty a b =
      let l = length-stacks in is.alone k (omega arith) a ∙ sym (is.alone j (omega arith) b)
  same_stack k j h i e lower Empty (On top below) a b = let f = types_empty k h a in let g = types_on j below top i b in absurd (cc)
  same_stack k j h i e lower (On top below) Empty a b = let f = types_on k below top h a in let g = types_empty j i b in absurd (cc)
  same_stack k j h i e lower (On t p) (On u q) a b =
      let f = types_on k p t h a in
      let g = types_on j q u i b in
      let top : t ≡ u = cc in
      let rest : types_at stacks p ≡ types_at stacks q = cc in
      let below : p ≡ q = lower p q (is.lower k p t a) (is.lower j q u b) rest in
      let both : Some k ≡ Some j =
      sym (is.linked k p t a) ∙ ap (λ x. link x (node_at nodes p)) top ∙ ap (λ x. link u (node_at nodes x)) below
      ∙ is.linked j q u b in
      cc

  same_number : (bound k j : ℕ) → k < bound → k < length stacks → j < length stacks → types_at stacks k ≡ types_at stacks j → k ≡ j
  same_number zero k j l h i e = absurd (omega arith)
  same_number (suc bound) k j l h i e =
      same_stack k j h i e (λ p q a b. same_number bound p q (omega arith) (omega arith) (omega arith))
      (node_at nodes k).stack (node_at nodes j).stack refl refl

  -- equal types have one number
  pub types_differ : (k j : ℕ) → k < length stacks → j < length stacks → types_at stacks k ≡ types_at stacks j → k ≡ j
  types_differ k j h i e = same_number (suc k) k j (omega arith) h i e

-- Two tries, of which the second has more nodes.
module _ (nodes more : List Node) (is : IsTrie nodes) (also : IsTrie more) (longer : length nodes ≤ length more)
    (same : (k : ℕ) → k < length nodes → (node_at more k).stack ≡ (node_at nodes k).stack) where
  types_stay : (bound k : ℕ) → k < bound → k < length nodes → types_at (stacks_of more) k ≡ types_at (stacks_of nodes) k
  types_stay zero k l h = absurd (omega arith)
  types_stay (suc bound) k l h =
      let a = length-stacks nodes (stacks_of nodes) is refl in
      let b = length-stacks more (stacks_of more) also refl in
      types_of_node more (stacks_of more) also refl k (omega arith) ∙ ap (stack_types (stacks_of more)) (same k h)
      ∙ stack_types_same (stacks_of more) (stacks_of nodes) (node_at nodes k).stack k (lies_below nodes is k)
      (λ j lower. types_stay bound j (omega arith) (omega arith))
      ∙ sym (types_of_node nodes (stacks_of nodes) is refl k (omega arith))

  -- where the stacks of nodes stay, so do their types
  pub keeps_types : Keeps (stacks_of nodes) (stacks_of more)
  keeps_types =
      let a = length-stacks nodes (stacks_of nodes) is refl in
      let b = length-stacks more (stacks_of more) also refl in
      record { all = omega arith; each = λ k h. types_stay (suc k) k (omega arith) (omega arith) }
