use Rattle.std.proofs.Common.{nat_eq}
use Rattle.dv_devs.proofs.Parts.{part_entries}
use Rattle.dv_conservative.proofs.Wholes.{all_united}
use Rattle.dv_conservative.proofs.world.parts_of_processes_are_the_trace.Goals as goal

pub returns-clause-entries : goal.returns-clause-entries
returns-clause-entries g c limit net inputs owner n p = part_entries limit net inputs (λ k. nat_eq (owner k) p) n

pub returns-clause-outer : goal.returns-clause-outer
returns-clause-outer g c limit net inputs owner n processes ready outputs linear bags within =
    all_united limit net inputs ready outputs owner n linear bags processes within
