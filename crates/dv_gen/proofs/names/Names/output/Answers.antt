use Rattle.dv_gen.proofs.FewNames.{index_of-small}
use Rattle.dv_gen.proofs.names.Names.output.Goals as goal

pub index_or_first-requires : goal.index_or_first-requires
index_or_first-requires c = index_of-small _ c.args.name _ c.output.ensures c.self.invariant.outputs
