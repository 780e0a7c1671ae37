use Rattle.dv_devs.proofs.Outside.{part_united, trace_united}
use Rattle.dv_devs.proofs.laws.parts.what_leaves_is_united.Goals as goal

pub returns-clause-part : goal.returns-clause-part
returns-clause-part g c limit net inputs who also n linear bags apart =
    part_united c.sizes_add.ensures.size c.sizes_add.ensures.none c.bags_are_a_commutative_monoid.ensures.unit_left limit net inputs
    linear who also apart n bags

pub returns-clause-trace : goal.returns-clause-trace
returns-clause-trace g c limit net inputs who n linear bags numbered =
    trace_united c.sizes_add.ensures.size c.sizes_add.ensures.none c.bags_are_a_commutative_monoid.ensures.unit_left limit net inputs
    linear who numbered n bags
