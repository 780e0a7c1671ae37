use Rattle.test_ring.proofs.Made.{are_made}
use Rattle.test_ring.proofs.ring.ring.Goals as goal

pub new-requires : goal.new-requires
new-requires c =
    let one = c.in_ok-process_of.field-0 in
    let other = c.in_ok-process_of-2.field-0 in
    rw c.in_ok-channels.ensures.items (rw c.push_reserved-2.ensures.items
    (rw c.push_reserved.ensures.items (rw c.in_ok-processes.ensures.items
    (are_made (record { frame = c.args.frame; ticks = c.args.ticks }) one other
    c.in_ok-process_of.ensures.valid c.in_ok-process_of-2.ensures.valid
    c.in_ok-process_of.ensures.new c.in_ok-process_of-2.ensures.new
    c.in_ok-process_of.ensures.share c.in_ok-process_of-2.ensures.share))))
