use Rattle.std.proofs.Common.{◌≡◌, ◌∙◌, ◌+◌, ◌-◌, ◌<◌, ℕ, length, drop, reverse, ap, pos, arith, rules}
use Rattle.dv_conservative.specs.Events.{in_order}
use Rattle.dv_share.specs.Links.{deliveries_of}
use Rattle.dv_share.specs.declared.link.Delivery.{Delivery}
use Rattle.dv_share.proofs.Told.{deliveries_turned, drop_none, in_order_step}
use Rattle.dv_share.proofs.carry.unite.Goals as goal

none : Delivery
none = record { component = 0; port = 0; value = pos 0; copies = 0 }

pub loop-index-preserved-in-Continue-branch-2 : goal.loop-index-preserved-in-Continue-branch-2
unfolding none
loop-index-preserved-in-Continue-branch-2 c =
    let ds = c.args.sorted.now in
    let i = c.loop-index.index - 1 in
    let next : c.loop-index.index ≡ i + 1 = omega arith in
    let lt : i < length ds = omega arith in
    record {
      within = omega arith;
      all =
          c.in_ok-put_before.ensures
          ∙ in_order_step ds i none (reverse (deliveries_of c.loop-index.united.items)) c.requires lt c.if-delivery-gt0.true (search rules)
          (c.loop-index.invariant.all ∙ ap (λ (n : ℕ). in_order (deliveries_of (drop n ds))) next);
    }

pub returns : goal.returns
returns c =
    let ds = c.args.sorted.now in
    let zero-index : c.loop-index.index ≡ 0 = omega arith in
    ap deliveries_of c.reverse.ensures.items
    ∙ deliveries_turned c.loop-index.united.items
    ∙ c.loop-index.invariant.all
    ∙ ap (λ (n : ℕ). in_order (deliveries_of (drop n ds))) zero-index
    ∙ ap (λ ds. in_order (deliveries_of ds)) (drop_none ds)
