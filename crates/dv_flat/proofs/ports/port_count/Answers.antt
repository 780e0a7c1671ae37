use Rattle.std.proofs.Common.{arith}
use Rattle.dv_eval.proofs.Names.{length-le_from_fits}
use Rattle.dv_flat.proofs.ports.port_count.Goals as goal

pub returns-clause-few : goal.returns-clause-few
returns-clause-few c = omega (arith, length-le_from_fits c.args.names.now c.requires c.type_inv.names)
