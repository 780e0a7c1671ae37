use Rattle.std.proofs.Common.{◌≡◌, ◌∙◌, ◌++◌, [], List, sym, ap, subst, arith}
use Rattle.std.proofs.lemmas.List.{append_assoc}
use Rattle.dv_conservative.specs.Links.{Delivery as Meant, Link, carried}
use Rattle.dv_share.specs.Links.{deliveries_of}
use Rattle.dv_share.specs.Indices.{indices_of}
use Rattle.dv_share.specs.Received.{AreGathered}
use Rattle.dv_share.specs.Rows.{rows}
use Rattle.dv_share.specs.Share.{AreReceived, AreTouched, sent_in}
use Rattle.dv_share.proofs.Gathering.{among_moved, gathered_all, gathered_new}
use Rattle.dv_share.proofs.Rising.{rise_of}
use Rattle.dv_share.proofs.Senders.{rows_are_carried}
use Rattle.dv_share.proofs.Touched.{touched_moved}
use Rattle.dv_share.proofs.received.Received.gather_along.Goals as goal

pub deliver_all-requires-clause-gathered : goal.deliver_all-requires-clause-gathered
deliver_all-requires-clause-gathered c = (
  [],
  c.in_ok-meet_all.ensures.gathered []
      (subst (AreGathered c.args.members.now []) (sym (c.in_ok-make_room.ensures.items ∙ c.clear.ensures)) (gathered_new c.args.members.now)),
)

pub deliver_emitted-requires-clause-ready : goal.deliver_emitted-requires-clause-ready
deliver_emitted-requires-clause-ready c = record {
  room = omega (arith, c.in_ok-deliver_all.ensures.room, c.meet_all.ensures.room, c.in_ok-make_room.ensures.room);
  gathered = (
    deliveries_of c.args.entered.now,
    c.in_ok-deliver_all.ensures.gathered []
        (c.in_ok-meet_all.ensures.gathered []
        (subst (AreGathered c.args.members.now []) (sym (c.in_ok-make_room.ensures.items ∙ c.clear.ensures)) (gathered_new c.args.members.now))),
  );
}

pub deliver_all-requires-2-clause-room : goal.deliver_all-requires-2-clause-room
deliver_all-requires-2-clause-room c =
    omega (
      arith,
      c.in_ok-deliver_emitted.ensures.room,
      c.in_ok-deliver_all.ensures.room,
      c.meet_all.ensures.room,
      c.in_ok-make_room.ensures.room,
    )

pub deliver_all-requires-2-clause-gathered : goal.deliver_all-requires-2-clause-gathered
deliver_all-requires-2-clause-gathered c = (
  deliveries_of c.args.entered.now ++ rows c.args.members.now c.args.links.now c.args.emitted.now,
  c.in_ok-deliver_emitted.ensures.gathered (deliveries_of c.args.entered.now)
      (c.in_ok-deliver_all.ensures.gathered []
      (c.in_ok-meet_all.ensures.gathered []
      (subst (AreGathered c.args.members.now []) (sym (c.in_ok-make_room.ensures.items ∙ c.clear.ensures)) (gathered_new c.args.members.now)))),
)

pub returns-clause-received : goal.returns-clause-received
returns-clause-received c =
    let ms = c.args.members.now in
    let entered = deliveries_of c.args.entered.now in
    let ds = deliveries_of c.args.deliveries.now in
    let led = rows ms c.args.links.now c.args.emitted.now in
    let all : (entered ++ led) ++ ds ≡ entered ++ (carried c.args.links.now (sent_in ms c.args.emitted.now) ++ ds) =
    append_assoc entered led ds
    ∙ ap (λ (es : List Meant). entered ++ (es ++ ds))
    (rows_are_carried ms c.args.links.now c.args.emitted.now c.requires.numbers
    (rise_of (λ (l : Link). l.from) c.args.links.now c.are_in_order.ensures.senders) c.requires.emitted) in
    subst (λ (es : List Meant). AreReceived ms es c.put_in_order.new.self.items) all
    (gathered_all ms ((entered ++ led) ++ ds) c.deliver_all-2.new.self.items c.put_in_order.new.self.items
    c.in_ok-put_in_order.ensures.rise c.in_ok-put_in_order.ensures.same
    (c.in_ok-deliver_all-2.ensures.gathered (entered ++ led)
    (c.in_ok-deliver_emitted.ensures.gathered entered
    (c.in_ok-deliver_all.ensures.gathered []
    (c.in_ok-meet_all.ensures.gathered []
    (subst (AreGathered ms []) (sym (c.in_ok-make_room.ensures.items ∙ c.clear.ensures)) (gathered_new ms)))))))

pub returns-clause-among : goal.returns-clause-among
returns-clause-among c p here =
    among_moved c.deliver_all-2.new.self.items c.put_in_order.new.self.items c.in_ok-put_in_order.ensures.same p
    (c.in_ok-deliver_all-2.ensures.among p
    (c.in_ok-deliver_emitted.ensures.among p (c.in_ok-deliver_all.ensures.among p (c.in_ok-meet_all.ensures.among p here))))

pub returns-clause-touched : goal.returns-clause-touched
returns-clause-touched c =
    let ps = indices_of c.args.emitted.now in
    touched_moved ps c.deliver_all-2.new.self.items c.put_in_order.new.self.items c.in_ok-put_in_order.ensures.same
    (c.in_ok-deliver_all-2.ensures.touched ps
    (c.in_ok-deliver_emitted.ensures.touched ps
    (c.in_ok-deliver_all.ensures.touched ps
    (c.in_ok-meet_all.ensures.touched
    (subst (AreTouched ps) (sym (c.in_ok-make_room.ensures.items ∙ c.clear.ensures)) (λ i x lt. absurd (omega (arith, lt))))))))
