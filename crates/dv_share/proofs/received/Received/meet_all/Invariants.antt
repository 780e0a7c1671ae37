use Rattle.std.proofs.Common.{◌≡◌, List, take}
use Rattle.dv_conservative.specs.Links.{Delivery as Meant}
use Rattle.dv_share.specs.Indices.{indices_of}
use Rattle.dv_share.specs.Received.{AreGathered}
use Rattle.dv_share.specs.Share.{AreAmong, AreTouched}
use Rattle.dv_share.proofs.received.Received.meet_all.Given as goal

-- the first emissions have their indices
abbrev pub invariant-loop-emission : goal.invariant-loop-emission
invariant-loop-emission l = record {
  room : l.self.room ≡ l.fn.self.room;
  gathered : (ds : List Meant) → AreGathered l.members ds l.fn.self.items → AreGathered l.members ds l.self.items;
  among : AreAmong (indices_of (take l.emission-index l.emitted)) (indices_of l.self.items);
  touched : AreTouched (indices_of l.emitted) l.fn.self.items → AreTouched (indices_of l.emitted) l.self.items;
}
