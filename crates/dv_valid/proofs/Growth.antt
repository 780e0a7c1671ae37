-- One more stack in a trie: it stays one, and what was numbered stays.
use Rattle.std.proofs.Common.{◌≡◌, ◌≢◌, ℕ, ◌+◌, ◌<◌, ◌≤◌, List, [], ◌∷◌, ◌++◌, length, set, Some, None, refl, sym, ◌∙◌, ap, arith}
use Rattle.std.proofs.Common.{◌⊎◌, inl, inr, length-append, length-set, get_or-set_same, get_or-set_other}
use Rattle.std.proofs.Math.ListN.{get_or-append}
use Rattle.std.proofs.Math.Seq.{get_or-append_seam}
use Rattle.std.proofs.lemmas.Bool.{cases_eq, cases_lt, cases_order}
use Rattle.std.proofs.lemmas.List.{get_or_past}
use Rattle.dv_bag.specs.declared.value.ValueType.{ValueType}
use Rattle.dv_bag.specs.declared.value.ValueType.TheVariants.{Number, Truth}
use Rattle.dv_valid.specs.Stacks.{IsTrie, Keeps, bare_node, link, node_at, stacks_of, types_at, with_link}
use Rattle.dv_valid.specs.declared.stacks.Node.{Node}
use Rattle.dv_valid.specs.declared.stacks.Stack.{Stack}
use Rattle.dv_valid.specs.declared.stacks.Stack.TheVariants.{Empty, On}
use Rattle.dv_valid.proofs.Tries.{keeps_types, length-stacks, types_on}

-- two types are one or two
cases_type : (t u : ValueType) → (t ≡ u) ⊎ (t ≡ u → ⊥)
cases_type Number Number = inl refl
cases_type Number Truth = inr (λ e. cc)
cases_type Truth Number = inr (λ e. cc)
cases_type Truth Truth = inl refl

module _ (nodes more : List Node) (top : ValueType) (below : ℕ) (is : IsTrie nodes) (within : below < length nodes)
    (longer : length more ≡ length nodes + 1)
    (same : (k : ℕ) → k < length nodes → (node_at more k).stack ≡ (node_at nodes k).stack)
    (new : (node_at more (length nodes)).stack ≡ On top below)
    (past : (k : ℕ) → length nodes < k → (node_at more k).stack ≡ Empty)
    (none : link top (node_at nodes below) ≡ None)
    (leads : link top (node_at more below) ≡ Some (length nodes))
    (others : (k : ℕ) (t : ValueType) → (k ≡ below → t ≡ top → ⊥) → link t (node_at more k) ≡ link t (node_at nodes k)) where
  -- the old stacks, and the new one
  stack_cases : (k b : ℕ) (t : ValueType) → (node_at more k).stack ≡ On t b
      → ((k < length nodes) × ((node_at nodes k).stack ≡ On t b)) ⊎ ((k ≡ length nodes) × (t ≡ top) × (b ≡ below))
  stack_cases k b t e =
      elim (cases_order k (length nodes)) [
        | inl at ↦ let f : On top below ≡ On t b = sym new ∙ ap (λ i. (node_at more i).stack) (sym at) ∙ e in inr (at, cc, cc)
        | inr o ↦ elim o [
          | inl less ↦ inl (less, sym (same k less) ∙ e)
          | inr far ↦ let f : Empty ≡ On t b = sym (past k far) ∙ e in absurd (cc)
        ]
      ]

  -- the new link is no other
  is_other : (k b : ℕ) (t : ValueType) → link t (node_at nodes b) ≡ Some k → b ≡ below → t ≡ top → ⊥
  is_other k b t e at is_top =
      let there = ap (λ x. link x (node_at nodes b)) is_top ∙ ap (λ x. link top (node_at nodes x)) at in
      let f : link top (node_at nodes below) ≡ Some k = sym there ∙ e in
      cc

  more_linked : (k b : ℕ) (t : ValueType) → (node_at more k).stack ≡ On t b → link t (node_at more b) ≡ Some k
  more_linked k b t e =
      elim (stack_cases k b t e) [
        | inl old ↦ let was = is.linked k b t old.1 in others b t (is_other k b t was) ∙ was
        | inr n ↦ ap (λ x. link x (node_at more b)) n.1 ∙ ap (λ x. link top (node_at more x)) n.2 ∙ leads ∙ ap Some (sym n.0)
      ]

  old_links : (k b : ℕ) (t : ValueType) → link t (node_at more b) ≡ Some k → (b ≡ below → t ≡ top → ⊥)
      → (k < length more) × ((node_at more k).stack ≡ On t b)
  old_links k b t e ne =
      let was = is.links k b t (sym (others b t ne) ∙ e) in
      (omega arith, same k was.0 ∙ was.1)

  more_links : (k b : ℕ) (t : ValueType) → link t (node_at more b) ≡ Some k
      → (k < length more) × ((node_at more k).stack ≡ On t b)
  more_links k b t e =
      elim (cases_eq b below) [
        | inl at ↦ elim (cases_type t top) [
          | inl is_top ↦
              let there = ap (λ x. link x (node_at more below)) (sym is_top) ∙ ap (λ x. link t (node_at more x)) (sym at) in
              let f : Some (length nodes) ≡ Some k = sym leads ∙ there ∙ e in
              let g : length nodes ≡ k = cc in
              (omega arith, ap (λ i. (node_at more i).stack) (sym g) ∙ new ∙ ap (λ x. On x below) (sym is_top) ∙ ap (On t) (sym at))
          | inr ne ↦ old_links k b t e (λ p q. ne q)
        ]
        | inr ne ↦ old_links k b t e (λ p q. ne p)
      ]

  -- one more stack
  pub trie_more : IsTrie more
  trie_more = record {
    some = omega arith;
    first = same 0 is.some ∙ is.first;
    alone = λ k h e. elim (cases_lt k (length nodes)) [
      | inl less ↦ is.alone k less (sym (same k less) ∙ e)
      | inr far ↦ let at : k ≡ length nodes = omega arith in
          let f : On top below ≡ Empty = sym new ∙ ap (λ i. (node_at more i).stack) (sym at) ∙ e in absurd (cc)
    ];
    lower = λ k b t e. elim (stack_cases k b t e) [
      | inl old ↦ is.lower k b t old.1
      | inr n ↦ omega arith
    ];
    linked = more_linked;
    links = more_links;
  }

-- the stack of a node stays where a link is made
stack-with_link : (t : ValueType) (k : ℕ) (n : Node) → (with_link t k n).stack ≡ n.stack
stack-with_link Number k n = refl
stack-with_link Truth k n = refl

-- the link that is made
link-with_link : (t : ValueType) (k : ℕ) (n : Node) → link t (with_link t k n) ≡ Some k
link-with_link Number k n = refl
link-with_link Truth k n = refl

-- the other link stays
link-with_link_other : (t u : ValueType) (k : ℕ) (n : Node) → (u ≡ t → ⊥) → link u (with_link t k n) ≡ link u n
link-with_link_other Number Number k n ne = absurd (ne refl)
link-with_link_other Number Truth k n ne = refl
link-with_link_other Truth Number k n ne = refl
link-with_link_other Truth Truth k n ne = absurd (ne refl)

-- nothing was made of a bare node
link-bare_node : (t : ValueType) (s : Stack) → link t (bare_node s) ≡ None
link-bare_node Number s = refl
link-bare_node Truth s = refl

-- nodes with one more stack, to which the one below leads
abbrev pub more_nodes : List Node → ValueType → ℕ → List Node
more_nodes nodes top below =
    set (nodes ++ bare_node (On top below) ∷ []) below (with_link top (length nodes) (node_at nodes below))

module _ (nodes : List Node) (top : ValueType) (below : ℕ) (is : IsTrie nodes) (within : below < length nodes)
    (none : link top (node_at nodes below) ≡ None) where
  abbrev more : List Node
  more = more_nodes nodes top below

  -- the new node, before the one below leads to it
  abbrev new : Node
  new = bare_node (On top below)

  length-more : length more ≡ length nodes + 1
  length-more =
      let linked = with_link top (length nodes) (node_at nodes below) in
      omega (arith, length-set (nodes ++ new ∷ []) below linked, length-append nodes (new ∷ []))

  -- the node below, with its link
  node_below : node_at more below ≡ with_link top (length nodes) (node_at nodes below)
  node_below = get_or-set_same (nodes ++ new ∷ []) below _ _ (omega (arith, length-append nodes (new ∷ [])))

  -- the other nodes
  node_other : (k : ℕ) → k ≢ below → node_at more k ≡ node_at (nodes ++ new ∷ []) k
  node_other k ne = get_or-set_other (nodes ++ new ∷ []) below k _ _ ne

  node_before : (k : ℕ) → k ≢ below → k < length nodes → node_at more k ≡ node_at nodes k
  node_before k ne h = node_other k ne ∙ get_or-append nodes (new ∷ []) _ k h

  node_last : node_at more (length nodes) ≡ new
  node_last = node_other (length nodes) (λ e. absurd (omega arith)) ∙ get_or-append_seam nodes new [] _

  node_past : (k : ℕ) → length nodes < k → node_at more k ≡ bare_node Empty
  node_past k far = get_or_past more k _ (omega (arith, length-more))

  stack_stays : (k : ℕ) → k < length nodes → (node_at more k).stack ≡ (node_at nodes k).stack
  stack_stays k h =
      elim (cases_eq k below) [
        | inl at ↦ ap (λ i. (node_at more i).stack) at ∙ ap (λ n. n.stack) node_below
            ∙ stack-with_link top (length nodes) (node_at nodes below) ∙ ap (λ i. (node_at nodes i).stack) (sym at)
        | inr ne ↦ ap (λ n. n.stack) (node_before k ne h)
      ]

  -- a number with no node has no link
  no_link : (k : ℕ) (t : ValueType) → length nodes ≤ k → link t (node_at nodes k) ≡ None
  no_link k t far = ap (link t) (get_or_past nodes k _ far) ∙ link-bare_node t Empty

  link_stays : (k : ℕ) (t : ValueType) → (k ≡ below → t ≡ top → ⊥) → link t (node_at more k) ≡ link t (node_at nodes k)
  link_stays k t ne =
      elim (cases_eq k below) [
        | inl at ↦ ap (λ i. link t (node_at more i)) at ∙ ap (link t) node_below
            ∙ link-with_link_other top t (length nodes) (node_at nodes below) (ne at) ∙ ap (λ i. link t (node_at nodes i)) (sym at)
        | inr other ↦ elim (cases_order k (length nodes)) [
          | inl at ↦ ap (λ i. link t (node_at more i)) at ∙ ap (link t) node_last ∙ link-bare_node t (On top below)
              ∙ sym (no_link k t (omega arith))
          | inr o ↦ elim o [
            | inl less ↦ ap (link t) (node_before k other less)
            | inr far ↦ ap (link t) (node_past k far) ∙ link-bare_node t Empty ∙ sym (no_link k t (omega arith))
          ]
        ]
      ]

  pub more_nodes_trie : IsTrie (more_nodes nodes top below)
  more_nodes_trie =
      trie_more nodes more top below is within length-more stack_stays (ap (λ n. n.stack) node_last)
      (λ k far. ap (λ n. n.stack) (node_past k far)) none
      (ap (link top) node_below ∙ link-with_link top (length nodes) (node_at nodes below)) link_stays

  pub more_nodes_keeps : Keeps (stacks_of nodes) (stacks_of (more_nodes nodes top below))
  more_nodes_keeps = keeps_types nodes more is more_nodes_trie (omega (arith, length-more)) stack_stays

  -- the new stack
  pub more_nodes_on : (length nodes < length (stacks_of (more_nodes nodes top below)))
      × (types_at (stacks_of (more_nodes nodes top below)) (length nodes) ≡ top ∷ types_at (stacks_of nodes) below)
  more_nodes_on =
      let n = length-stacks more (stacks_of more) more_nodes_trie refl in
      let m = length-stacks nodes (stacks_of nodes) is refl in
      let h : length nodes < length (stacks_of more) = omega (arith, length-more) in
      let on = types_on more (stacks_of more) more_nodes_trie refl (length nodes) below top h (ap (λ n. n.stack) node_last) in
      (h, on.1 ∙ ap (λ ts. top ∷ ts) (more_nodes_keeps.each below (omega arith)))
