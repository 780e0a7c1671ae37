use Rattle.std.proofs.Common.{◌≡◌, ℕ, ◌++◌, List, take}
use Rattle.dv_conservative.specs.Links.{Delivery as Meant}
use Rattle.dv_share.specs.Links.{deliveries_of}
use Rattle.dv_share.specs.Indices.{indices_of}
use Rattle.dv_share.specs.Received.{AreGathered}
use Rattle.dv_share.specs.Share.{AreAmong, AreTouched}
use Rattle.dv_share.proofs.received.Received.deliver_all.Given as goal

-- the first deliveries have come
abbrev pub invariant-loop-delivery : goal.invariant-loop-delivery
invariant-loop-delivery l = record {
  room : l.self.room ≡ l.fn.self.room;
  gathered :
      (ds : List Meant) → AreGathered l.members ds l.fn.self.items
      → AreGathered l.members (ds ++ deliveries_of (take l.delivery-index l.deliveries)) l.self.items;
  among : AreAmong (indices_of l.fn.self.items) (indices_of l.self.items);
  touched : (ps : List ℕ) → AreTouched ps l.fn.self.items → AreTouched ps l.self.items;
}
