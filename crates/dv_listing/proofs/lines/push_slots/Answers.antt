use Rattle.dv_listing.proofs.Indexed.{slot_step}
use Rattle.dv_listing.proofs.lines.push_slots.Goals as goal

pub loop-index-preserved : goal.loop-index-preserved
loop-index-preserved c =
    slot_step _ _ _ _ _ _ _ _ _ _ _ _ c.variables-names.ensures c.domains-domain-items.ensures c.loop-index-test.true
    c.word_of.ensures c.name.ensures c.loop-index.invariant c.in_ok-writeln.ensures.bytes
