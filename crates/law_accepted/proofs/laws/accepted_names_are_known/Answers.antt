use Rattle.dv_eval.specs.Scope.{scope_of}
use Rattle.law_accepted.proofs.Inputs.{port_read}
use Rattle.law_accepted.proofs.Known.{datum_held}
use Rattle.law_accepted.proofs.NamesKnown.{holds_known, rules_known}
use Rattle.law_accepted.proofs.laws.accepted_names_are_known.Goals as goal

pub returns-clause-rules : goal.returns-clause-rules
returns-clause-rules c = rules_known

pub returns-clause-holds : goal.returns-clause-holds
returns-clause-holds c = holds_known

pub returns-clause-values : goal.returns-clause-values
returns-clause-values c = λ m s name d fit known. datum_held (scope_of m) s name d fit known

pub returns-clause-inputs : goal.returns-clause-inputs
returns-clause-inputs c = port_read
