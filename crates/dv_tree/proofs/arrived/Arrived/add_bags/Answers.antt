use Rattle.std.proofs.Common.{sym, ◌∙◌}
use Rattle.std.proofs.lemmas.Bool.{eqb-true}
use Rattle.dv_bag.specs.Bag.{size_of_all}
use Rattle.dv_tree.proofs.Along.{along_empty}
use Rattle.dv_tree.proofs.arrived.Arrived.add_bags.Goals as goal

pub returns-then-is_empty : goal.returns-then-is_empty
returns-then-is_empty c =
    along_empty c.args.couplings.now c.args.bags.now c.args.self.now
    (eqb-true (size_of_all c.args.bags.now) 0 (sym c.is_empty.ensures.size ∙ c.if-is_empty.true))
