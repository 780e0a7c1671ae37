use Rattle.dv_check.proofs.Order.{irreflexive, total, transitive}
use Rattle.dv_check.proofs.laws.refusals_are_ordered.Goals as goal

pub returns-clause-irreflexive : goal.returns-clause-irreflexive
returns-clause-irreflexive c = irreflexive

pub returns-clause-transitive : goal.returns-clause-transitive
returns-clause-transitive c = transitive

pub returns-clause-total : goal.returns-clause-total
returns-clause-total c = total
