use Rattle.std.proofs.lemmas.Int.{to_z-of_z}
use Rattle.dv_bag.proofs.Pairs.{copies_read}
use Rattle.dv_bag.proofs.bag.Bag.times.Goals as goal

pub returns-in-Ok : goal.returns-in-Ok
returns-in-Ok c =
    let found = rw (c.as_slice.ensures, c.self.view_is) at c.in-Ok.ensures.found in
    copies_read _ _ c.args.self.now _ _ _ _ (to_z-of_z _ _ c.ranges.value) c.self.view_is c.deref.ensures c.deref.ensures found
