use Rattle.std.proofs.Common.{◌≡◌, ℕ, ◌<◌, List, ◌∷◌, [], ◌++◌, Some, None, length, set, ap, sym, ◌∙◌, subst, arith}
use Rattle.dv_valid.specs.Stacks.{IsTrie, Keeps, Stacks, bare_node, link, node_at, stacks_of, types_at, with_link}
use Rattle.dv_bag.specs.declared.value.ValueType.{ValueType}
use Rattle.dv_valid.specs.declared.stacks.Node.{Node}
use Rattle.dv_valid.specs.declared.stacks.Stack.TheVariants.{On}
use Rattle.dv_valid.proofs.Tries.{length-stacks, node_read, types_on}
use Rattle.dv_valid.proofs.Growth.{more_nodes, more_nodes_keeps, more_nodes_on, more_nodes_trie}
use Rattle.dv_valid.proofs.stacks.TypeStacks.push.Goals as goal

pub index-node-requires : goal.index-node-requires
index-node-requires c =
    let nodes = c.self.inside.nodes in
    omega (arith, length-stacks nodes.items c.args.self.now c.self.invariant c.self.view_is, nodes.ok.0)

pub returns-in-Some-clause-stack : goal.returns-in-Some-clause-stack
returns-in-Some-clause-stack c =
    let nodes = c.self.inside.nodes.items in
    let stacks = c.args.self.now in
    let top = c.args.top in
    let below = c.args.below in
    let n = length-stacks nodes stacks c.self.invariant c.self.view_is in
    let read = node_read nodes stacks c.self.invariant c.self.view_is below c.index-node.result.now c.requires c.index-node.ensures in
    let e : link top (node_at nodes below) ≡ Some c.in-Some.stack = ap (link top) (sym read) ∙ sym c.link.ensures ∙ c.in-Some.is in
    let there = c.self.invariant.links c.in-Some.stack below top e in
    let h : c.in-Some.stack < length stacks = omega (arith, there.0) in
    (h, (types_on nodes stacks c.self.invariant c.self.view_is c.in-Some.stack below top h there.1).1)

pub index_mut-requires : goal.index_mut-requires
index_mut-requires c =
    let nodes = c.self.inside.nodes in
    let n = length-stacks nodes.items c.args.self.now c.self.invariant c.self.view_is in
    omega (arith, c.requires, c.in_ok-push.ensures.len, nodes.ok.0)

-- the node that was read
read_is : (c : goal.After-self-1) → c.index-node.result.now ≡ node_at c.self.inside.nodes.items c.args.below
read_is c =
    node_read c.self.inside.nodes.items c.args.self.now c.self.invariant c.self.view_is c.args.below c.index-node.result.now c.requires
    c.index-node.ensures

-- the nodes are those with one more stack
nodes_are : (c : goal.After-self-1)
    → set c.push.new.self.items c.args.below c.with_link.result ≡ more_nodes c.self.inside.nodes.items c.args.top c.args.below
nodes_are c =
    let nodes = c.self.inside.nodes.items in
    let below = c.args.below in
    let number : c.len-stack.result ≡ length nodes = c.len-stack.ensures ∙ c.self.inside.nodes.ok.0 in
    let linked : c.with_link.result ≡ with_link c.args.top (length nodes) (node_at nodes below) =
    c.with_link.ensures ∙ ap (λ k. with_link c.args.top k c.index-node.result.now) number
    ∙ ap (with_link c.args.top (length nodes)) (read_is c) in
    ap (λ xs. set xs below c.with_link.result) c.in_ok-push.ensures.items
    ∙ ap (set (nodes ++ bare_node (On c.args.top below) ∷ []) below) linked

-- the stack was not made before
was_none : (c : goal.After-self-1) → link c.args.top (node_at c.self.inside.nodes.items c.args.below) ≡ None
was_none c = ap (link c.args.top) (sym (read_is c)) ∙ sym c.link.ensures ∙ c.in_default.is

-- there is a node below
within : (c : goal.After-self-1) → c.args.below < length c.self.inside.nodes.items
within c = omega (arith, c.requires, length-stacks c.self.inside.nodes.items c.args.self.now c.self.invariant c.self.view_is)

pub invariant_of-self-2 : goal.invariant_of-self-2
invariant_of-self-2 c =
    let nodes = c.self.inside.nodes.items in
    subst IsTrie (sym (nodes_are c)) (more_nodes_trie nodes c.args.top c.args.below c.self.invariant (within c) (was_none c))

pub returns-clause-kept : goal.returns-clause-kept
returns-clause-kept c =
    let nodes = c.self.inside.nodes.items in
    subst (λ xs. Keeps xs (stacks_of (set c.push.new.self.items c.args.below c.with_link.result))) c.self.view_is
    (subst (λ xs. Keeps (stacks_of nodes) (stacks_of xs)) (sym (nodes_are c))
    (more_nodes_keeps nodes c.args.top c.args.below c.self.invariant (within c) (was_none c)))

-- a number has the new stack
abbrev IsOn : ValueType → ℕ → Stacks → ℕ → List Node → Type 0
IsOn top below old k nodes = (k < length (stacks_of nodes)) × (types_at (stacks_of nodes) k ≡ top ∷ types_at old below)

pub returns-clause-stack : goal.returns-clause-stack
returns-clause-stack c =
    let nodes = c.self.inside.nodes.items in
    let number : c.len-stack.result ≡ length nodes = c.len-stack.ensures ∙ c.self.inside.nodes.ok.0 in
    subst (λ k. IsOn c.args.top c.args.below c.args.self.now k (set c.push.new.self.items c.args.below c.with_link.result)) (sym number)
    (subst (IsOn c.args.top c.args.below c.args.self.now (length nodes)) (sym (nodes_are c))
    (subst (λ old. IsOn c.args.top c.args.below old (length nodes) (more_nodes nodes c.args.top c.args.below)) c.self.view_is
    (more_nodes_on nodes c.args.top c.args.below c.self.invariant (within c) (was_none c))))
