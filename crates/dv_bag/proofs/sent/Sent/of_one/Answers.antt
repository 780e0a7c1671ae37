use Rattle.std.proofs.Common.{ap, ◌∙◌, arith}
use Rattle.std.proofs.lemmas.Int.{to_z-of_z}
use Rattle.dv_bag.specs.Sent.{by_port}
use Rattle.dv_bag.proofs.Sendings.{one_by_port, one_in_all}
use Rattle.dv_bag.proofs.sent.Sent.of_one.Goals as goal

pub invariant_of-result : goal.invariant_of-result
invariant_of-result c =
    rw c.from_buf.ensures.items
    ((c.requires, omega arith, omega arith, tt), tt, one_in_all c.args.ports c.args.port _ c.requires)

pub returns : goal.returns
returns c =
    ap (by_port c.args.ports) c.from_buf.ensures.items
    ∙ rw (to_z-of_z _ _ c.ranges.value) (one_by_port c.args.ports c.args.port c.args.value c.requires)
