use Rattle.std.proofs.Common.{◌≡◌, ◌∙◌, ◌++◌, List, IsPermutation, sym, ap, subst}
use Rattle.std.proofs.lemmas.Result.{IfOk-weaker}
use Rattle.dv_conservative.specs.Events.{in_order}
use Rattle.dv_conservative.specs.Links.{carried}
use Rattle.dv_share.specs.Links.{deliveries_of}
use Rattle.dv_share.specs.Rows.{AreSorted}
use Rattle.dv_share.specs.Share.{sent_in}
use Rattle.dv_share.specs.declared.link.Delivery.{Delivery}
use Rattle.dv_share.proofs.Sums.{moved_delivers, sorted_keys}
use Rattle.dv_share.proofs.Told.{in_order_same}
use Rattle.dv_share.proofs.carry.away.Goals as goal

pub unite-requires : goal.unite-requires
unite-requires c = subst AreSorted (sym c.deref.ensures.value) (sorted_keys c.sort_unstable.new.self.items c.sort_unstable.ensures.sorted)

pub returns : goal.returns
returns c =
    let es = c.args.emitted.now in
    let ms = c.args.members.now in
    let all = c.carry_emitted.new.deliveries.items in
    let sorted = c.deref.result.now in
    let moved : IsPermutation all sorted = subst (IsPermutation all) (sym c.deref.ensures.value) c.sort_unstable.ensures.permutation in
    let led : deliveries_of all ≡ carried c.args.links.now (sent_in ms es) =
    c.in_ok-carry_emitted.ensures
    ∙ ap (λ (ds : List Delivery). deliveries_of ds ++ carried c.args.links.now (sent_in ms es)) c.new-deliveries.ensures.items in
    IfOk-weaker c.unite.result _ _
    (λ ds h.
    h
    ∙ in_order_same (deliveries_of sorted) (deliveries_of all) (moved_delivers sorted all moved)
    ∙ ap in_order led)
    c.unite.ensures
