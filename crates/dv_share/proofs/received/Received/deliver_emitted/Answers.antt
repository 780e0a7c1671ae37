use Rattle.std.proofs.Common.{◌∙◌, List, ap, sym, subst}
use Rattle.dv_conservative.specs.Links.{Delivery as Meant, Link}
use Rattle.dv_share.specs.Received.{HasTaken}
use Rattle.dv_share.specs.Rows.{rows}
use Rattle.dv_share.proofs.Senders.{rows_none}
use Rattle.dv_share.proofs.Taking.{taken_none}
use Rattle.dv_share.proofs.received.Received.deliver_emitted.Goals as goal

pub returns-then-is_empty : goal.returns-then-is_empty
returns-then-is_empty c =
    let ms = c.args.members.now in
    let es = c.args.emitted.now in
    let self = c.args.self.now in
    subst (λ (ds : List Meant). HasTaken ms ds self self)
    (sym (ap (λ (links : List Link). rows ms links es) (c.is_empty.ensures c.if-is_empty.true) ∙ rows_none ms es)) (taken_none ms self)
