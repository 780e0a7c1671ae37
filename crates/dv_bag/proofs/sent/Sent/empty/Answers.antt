use Rattle.std.proofs.Common.{◌≡◌, [], ap, ◌∙◌, arith}
use Rattle.dv_bag.specs.Sent.{by_port}
use Rattle.dv_bag.proofs.Sendings.{nothing_by_port, total_by_port}
use Rattle.dv_bag.proofs.sent.Sent.empty.Goals as goal

pub invariant_of-result : goal.invariant_of-result
invariant_of-result c =
    let none : c.new.result.items ≡ [] = c.new.ensures.items in
    let all = total_by_port c.args.ports [] tt in
    rw none (tt, tt, omega (arith, all))

pub returns : goal.returns
returns c = ap (by_port c.args.ports) c.new.ensures.items ∙ nothing_by_port 0 c.args.ports
