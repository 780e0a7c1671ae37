use Rattle.dv_gen.proofs.TypedTrees.{holds_typed, rules_typed}
use Rattle.dv_gen.proofs.laws.accepted_rules_are_well_typed.Goals as goal

pub returns-clause-rules : goal.returns-clause-rules
returns-clause-rules c = rules_typed

pub returns-clause-holds : goal.returns-clause-holds
returns-clause-holds c = holds_typed
