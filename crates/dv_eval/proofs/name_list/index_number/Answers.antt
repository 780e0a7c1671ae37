use Rattle.std.proofs.Common.{arith}
use Rattle.dv_eval.proofs.Names.{length-le_from_fits}
use Rattle.dv_eval.proofs.name_list.index_number.Goals as goal

pub overflow_cast-result : goal.overflow_cast-result
overflow_cast-result c = record { fits = omega (arith, length-le_from_fits c.args.names.now c.requires.distinct c.type_inv.names) }
