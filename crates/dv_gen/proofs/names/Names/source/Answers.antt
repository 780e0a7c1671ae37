use Rattle.dv_gen.proofs.FewNames.{index_of-small, slot-small}
use Rattle.dv_gen.proofs.names.Names.source.Goals as goal

pub overflow_cast-result : goal.overflow_cast-result
overflow_cast-result c =
    let small = slot-small _ c.args.name _ c.variable.ensures c.self.invariant in
    record { fits = rw c.in-Some.is at small }

pub index_or_first-requires : goal.index_or_first-requires
index_or_first-requires c = index_of-small _ c.args.name _ c.input.ensures c.self.invariant.inputs
