use Rattle.dv_gen.proofs.FewNames.{slot-small}
use Rattle.dv_gen.proofs.names.Names.slot.Goals as goal

pub index_or_first-requires : goal.index_or_first-requires
index_or_first-requires c = slot-small _ c.args.name _ c.variable.ensures c.self.invariant
