-- The list of the stacks that nodes stand for.
use Rattle.std.proofs.Common.{◌≡◌, ℕ, zero, suc, ◌+◌, ◌<◌, List, [], ◌∷◌, ◌++◌, length, refl, sym, ◌∙◌, ap, arith, length-append}
use Rattle.std.proofs.Math.ListN.{get_or-append}
use Rattle.std.proofs.Math.Seq.{get_or-append_seam}
use Rattle.dv_valid.specs.Stacks.{Stacks, node_at, stack_types, stacks_after, types_at}
use Rattle.dv_valid.specs.declared.stacks.Node.{Node}
use Rattle.dv_valid.specs.declared.stacks.Stack.{Stack}
use Rattle.dv_valid.specs.declared.stacks.Stack.TheVariants.{Empty, On}

-- a stack on one of a lower number than this
abbrev pub LiesBelow : ℕ → Stack → Type 0
LiesBelow n Empty = Unit {0}
LiesBelow n (On top below) = below < n

-- stacks that are the same below a number give the same to those on them
pub stack_types_same : (xs ys : Stacks) (s : Stack) (n : ℕ) → LiesBelow n s → ((k : ℕ) → k < n → types_at xs k ≡ types_at ys k)
    → stack_types xs s ≡ stack_types ys s
stack_types_same xs ys Empty n b same = refl
stack_types_same xs ys (On top below) n b same = ap (λ ts. top ∷ ts) (same below b)

pub length-stacks_after : (lower : Stacks) (nodes : List Node) → length (stacks_after lower nodes) ≡ length lower + length nodes
length-stacks_after lower [] = omega arith
length-stacks_after lower (n ∷ nodes) =
    let x = stack_types lower n.stack in
    omega (arith, length-stacks_after (lower ++ x ∷ []) nodes, length-append lower (x ∷ []))

-- the stacks of lower numbers stay
pub stacks_before : (lower : Stacks) (nodes : List Node) (k : ℕ) → k < length lower
    → types_at (stacks_after lower nodes) k ≡ types_at lower k
stacks_before lower [] k h = refl
stacks_before lower (n ∷ nodes) k h =
    let x = stack_types lower n.stack in
    stacks_before (lower ++ x ∷ []) nodes k (omega (arith, length-append lower (x ∷ []))) ∙ get_or-append lower (x ∷ []) [] k h

-- the types of a node's number are those of its stack, over all stacks
pub stack_after : (lower : Stacks) (nodes : List Node) (k i : ℕ) → i ≡ length lower + k → k < length nodes
    → LiesBelow i (node_at nodes k).stack
    → types_at (stacks_after lower nodes) i ≡ stack_types (stacks_after lower nodes) (node_at nodes k).stack
stack_after lower [] k i e h b = absurd (omega arith)
stack_after lower (n ∷ nodes) zero i e h b =
    let x = stack_types lower n.stack in
    let next = lower ++ x ∷ [] in
    let all = stacks_after next nodes in
    let more = length-append lower (x ∷ []) in
    let at : i ≡ length lower = omega arith in
    let before : (k : ℕ) → k < i → types_at lower k ≡ types_at all k = λ k l.
    sym (stacks_before next nodes k (omega arith) ∙ get_or-append lower (x ∷ []) [] k (omega arith)) in
    ap (types_at all) at ∙ stacks_before next nodes (length lower) (omega arith) ∙ get_or-append_seam lower x [] []
    ∙ stack_types_same lower all n.stack i b before
stack_after lower (n ∷ nodes) (suc k) i e h b =
    let x = stack_types lower n.stack in
    stack_after (lower ++ x ∷ []) nodes k i (omega (arith, length-append lower (x ∷ []))) (omega arith) b
