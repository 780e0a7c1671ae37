use Rattle.std.proofs.Common.{◌∙◌, [], sym, subst, arith}
use Rattle.dv_share.specs.Links.{deliveries_of}
use Rattle.dv_share.specs.Indices.{indices_of}
use Rattle.dv_share.specs.Received.{AreGathered}
use Rattle.dv_share.specs.Share.{AreTouched}
use Rattle.dv_share.proofs.Gathering.{among_moved, gathered_all, gathered_new}
use Rattle.dv_share.proofs.Touched.{touched_moved}
use Rattle.dv_share.proofs.received.Received.gather.Goals as goal

pub deliver_all-requires-clause-gathered : goal.deliver_all-requires-clause-gathered
deliver_all-requires-clause-gathered c = (
  [],
  c.in_ok-meet_all.ensures.gathered []
      (subst (AreGathered c.args.members.now []) (sym (c.in_ok-make_room.ensures.items ∙ c.clear.ensures)) (gathered_new c.args.members.now)),
)

pub returns-clause-received : goal.returns-clause-received
returns-clause-received c =
    let ms = c.args.members.now in
    gathered_all ms (deliveries_of c.args.deliveries.now) c.deliver_all.new.self.items c.put_in_order.new.self.items
    c.in_ok-put_in_order.ensures.rise c.in_ok-put_in_order.ensures.same
    (c.in_ok-deliver_all.ensures.gathered []
    (c.in_ok-meet_all.ensures.gathered []
    (subst (AreGathered ms []) (sym (c.in_ok-make_room.ensures.items ∙ c.clear.ensures)) (gathered_new ms))))

pub returns-clause-among : goal.returns-clause-among
returns-clause-among c p here =
    among_moved c.deliver_all.new.self.items c.put_in_order.new.self.items c.in_ok-put_in_order.ensures.same p
    (c.in_ok-deliver_all.ensures.among p (c.in_ok-meet_all.ensures.among p here))

pub returns-clause-touched : goal.returns-clause-touched
returns-clause-touched c =
    let ps = indices_of c.args.emitted.now in
    touched_moved ps c.deliver_all.new.self.items c.put_in_order.new.self.items c.in_ok-put_in_order.ensures.same
    (c.in_ok-deliver_all.ensures.touched ps
    (c.in_ok-meet_all.ensures.touched
    (subst (AreTouched ps) (sym (c.in_ok-make_room.ensures.items ∙ c.clear.ensures)) (λ i x lt. absurd (omega (arith, lt))))))
