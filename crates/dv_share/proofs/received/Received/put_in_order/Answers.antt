use Rattle.std.proofs.Common.{◌≡◌, ◌∙◌, ℕ, List, IsPermutation, ap, sym, subst}
use Rattle.std.specs.List.Sorted.{IsNonDecreasing}
use Rattle.std.proofs.lemmas.List.Sorted.{IsNonDecreasingBy-from_sort, IsPermutation-map, IsPermutation-refl}
use Rattle.dv_bag.specs.Bag.{Counts}
use Rattle.dv_share.specs.Indices.{AreRising, indices_of}
use Rattle.dv_share.specs.Received.{AreMet, ReceivedOf, met_of, indexed_at, receipt_at}
use Rattle.dv_share.specs.declared.index.Indexed.{Indexed}
use Rattle.dv_share.proofs.InOrder.{met_in_order, met_of_rise, met_same}
use Rattle.dv_share.proofs.MetIndices.{met_moved, met_rise}
use Rattle.dv_share.proofs.received.Received.put_in_order.Goals as goal

pub invariant_of-self : goal.invariant_of-self
invariant_of-self c =
    met_moved c.self.inside.receipts.items c.self.inside.indices.items c.sort_unstable.new.self.items c.self.invariant
    c.sort_unstable.ensures.permutation

pub returns-then-not-is_walk_faster-clause-rise : goal.returns-then-not-is_walk_faster-clause-rise
returns-then-not-is_walk_faster-clause-rise c = met_rise c.self.inside.receipts.items c.sort_unstable.new.self.items
    (met_moved c.self.inside.receipts.items c.self.inside.indices.items c.sort_unstable.new.self.items c.self.invariant
    c.sort_unstable.ensures.permutation)
    (IsNonDecreasingBy-from_sort (λ x. x) c.sort_unstable.new.self.items c.sort_unstable.ensures.sorted)

pub returns-then-not-is_walk_faster-clause-same : goal.returns-then-not-is_walk_faster-clause-same
returns-then-not-is_walk_faster-clause-same c =
    let after = indexed_at c.self.inside.receipts.items c.sort_unstable.new.self.items in
    subst (λ (xs : List (Indexed (List Counts))). IsPermutation xs after) (ap (λ (v : ReceivedOf). v.items) c.self.view_is)
    (IsPermutation-map (λ (p : ℕ). (receipt_at c.self.inside.receipts.items p).indexed) c.self.inside.indices.items
    c.sort_unstable.new.self.items c.sort_unstable.ensures.permutation)

pub invariant_of-self-2 : goal.invariant_of-self-2
invariant_of-self-2 c =
    let rs = c.self.inside.receipts.items in
    let is : c.swap.new.x.items ≡ met_of rs = ap (λ v. v.items) c.swap.ensures.x_after ∙ c.in_ok-put_met.ensures ∙ ap met_of c.deref-2.ensures.value in
    subst (AreMet rs) (sym is) (met_in_order rs c.self.inside.indices.items c.self.invariant)

pub returns-clause-rise : goal.returns-clause-rise
returns-clause-rise c =
    let rs = c.self.inside.receipts.items in
    let is : c.swap.new.x.items ≡ met_of rs = ap (λ v. v.items) c.swap.ensures.x_after ∙ c.in_ok-put_met.ensures ∙ ap met_of c.deref-2.ensures.value in
    subst (λ (ps : List ℕ). AreRising (indices_of (indexed_at rs ps))) (sym is)
    (met_of_rise rs c.self.inside.indices.items c.self.invariant)

pub returns-clause-same : goal.returns-clause-same
returns-clause-same c =
    let rs = c.self.inside.receipts.items in
    let ps = c.self.inside.indices.items in
    let is : c.swap.new.x.items ≡ met_of rs = ap (λ v. v.items) c.swap.ensures.x_after ∙ c.in_ok-put_met.ensures ∙ ap met_of c.deref-2.ensures.value in
    let after = indexed_at rs c.swap.new.x.items in
    subst (λ (xs : List (Indexed (List Counts))). IsPermutation xs after) (ap (λ (v : ReceivedOf). v.items) c.self.view_is)
    (IsPermutation-map (λ (p : ℕ). (receipt_at rs p).indexed) ps c.swap.new.x.items
    (subst (IsPermutation ps) (sym is) (met_same rs ps c.self.invariant)))

pub returns-then-are_in_order-clause-rise : goal.returns-then-are_in_order-clause-rise
returns-then-are_in_order-clause-rise c =
    subst (λ (xs : List (Indexed (List Counts))). AreRising (indices_of xs)) (ap (λ (v : ReceivedOf). v.items) c.self.view_is)
    (met_rise c.self.inside.receipts.items c.self.inside.indices.items c.self.invariant
    (subst IsNonDecreasing c.deref.ensures.value (c.are_in_order.ensures c.if-are_in_order.true)))

pub returns-then-are_in_order-clause-same : goal.returns-then-are_in_order-clause-same
returns-then-are_in_order-clause-same c = IsPermutation-refl c.args.self.now.items
