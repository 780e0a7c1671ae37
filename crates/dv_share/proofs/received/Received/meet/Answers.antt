use Rattle.std.proofs.Common.{◌≡◌, ◌∙◌, ◌<◌, true, ℕ, List, length, set, sym, ap, refl, arith}
use Rattle.std.proofs.lemmas.List.{get_or_default}
use Rattle.dv_bag.specs.Bag.{Counts}
use Rattle.dv_share.specs.Indices.{is_in, indices_of}
use Rattle.dv_share.specs.Received.{ReceivedOf, nowhere, indexed_at, with_index}
use Rattle.dv_share.specs.declared.index.Indexed.{Indexed}
use Rattle.dv_share.specs.declared.received.Receipt.{Receipt}
use Rattle.dv_share.proofs.MetIndices.{in_where_met, indexed_more}
use Rattle.dv_share.proofs.received.Received.meet.Goals as goal

there : (p n : ℕ) (xs : List (Indexed (List Counts))) → is_in p (indices_of xs) ≡ true → xs ≡ with_index p n xs
there p n xs e = rw e refl

pub returns-then-index-clause-met : goal.returns-then-index-clause-met
returns-then-index-clause-met c =
    let receipts = c.self.inside.receipts.items in
    let p = c.args.index in
    let lt : p < length receipts = omega (arith, c.requires, ap (λ (v : ReceivedOf). v.room) c.self.view_is) in
    let is = c.index.ensures ∙ get_or_default receipts p c.index.result.now nowhere lt in
    there p c.args.inputs c.args.self.now.items
    (ap (λ (v : ReceivedOf). is_in p (indices_of v.items)) (sym c.self.view_is)
    ∙ in_where_met receipts c.self.inside.indices.items c.self.invariant p lt
    (ap (λ (a : Receipt). a.is_met) (sym is) ∙ c.if-index.true))

pub returns-clause-met : goal.returns-clause-met
returns-clause-met c =
    let receipts = c.self.inside.receipts.items in
    let indices = c.self.inside.indices.items in
    let p = c.args.index in
    let lt : p < length receipts = omega (arith, c.requires, ap (λ (v : ReceivedOf). v.room) c.self.view_is) in
    let is = c.index.ensures ∙ get_or_default receipts p c.index.result.now nowhere lt in
    let here = c.index_mut-receipt.ensures.value ∙ get_or_default receipts p c.index_mut-receipt.result.now nowhere lt in
    let a : Receipt =
    record { indexed = record { index = c.index_mut-receipt.result.now.indexed.index; what = c.put_none.new.bags }; is_met = true } in
    ap (indexed_at (set receipts p a)) c.in_ok-push.ensures.items
    ∙ indexed_more receipts indices p c.args.inputs a c.self.invariant lt (ap (λ (a : Receipt). a.is_met) (sym is) ∙ c.if-index.false)
    (ap (λ (q : ℕ). record { index = q; what = c.put_none.new.bags })
    (ap (λ (a : Receipt). a.indexed.index) here ∙ c.self.invariant.own p lt)
    ∙ ap (λ (bags : List Counts). record { index = p; what = bags }) c.put_none.ensures)
    ∙ ap (λ (v : ReceivedOf). with_index p c.args.inputs v.items) c.self.view_is
