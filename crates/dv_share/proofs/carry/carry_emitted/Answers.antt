use Rattle.std.proofs.Common.{◌≡◌, ◌++◌, List, IfOk, subst}
use Rattle.dv_conservative.specs.Links.{Delivery as Meant, Link}
use Rattle.dv_share.specs.Links.{deliveries_of}
use Rattle.dv_share.proofs.Rising.{rise_of}
use Rattle.dv_share.proofs.Senders.{rows_are_carried}
use Rattle.dv_share.proofs.carry.carry_emitted.Goals as goal

pub returns : goal.returns
returns c =
    subst
    (λ (ds : List Meant). IfOk c.carry_rows.result (λ _. deliveries_of c.carry_rows.new.deliveries.items
    ≡ deliveries_of c.args.deliveries.now.items ++ ds))
    (rows_are_carried c.args.members.now c.args.links.now c.args.emitted.now c.requires.numbers
    (rise_of (λ (l : Link). l.from) c.args.links.now c.are_in_order.ensures.senders)
    c.requires.emitted)
    c.carry_rows.ensures
