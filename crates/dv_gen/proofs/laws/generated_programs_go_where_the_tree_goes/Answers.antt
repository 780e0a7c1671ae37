use Rattle.std.proofs.Common.{[], ◌∙◌}
use Rattle.dv_eval.specs.Scope.{scope_of}
use Rattle.dv_gen.specs.Resolution.{rule_tree}
use Rattle.dv_gen.proofs.Gotos.{hold_goes, resolved_gotos, rule_goes}
use Rattle.dv_gen.proofs.laws.generated_programs_go_where_the_tree_goes.Goals as goal

pub returns-clause-rule : goal.returns-clause-rule
returns-clause-rule c = rule_goes

pub returns-clause-hold : goal.returns-clause-hold
returns-clause-hold c = hold_goes

pub returns-clause-text : goal.returns-clause-text
returns-clause-text c = λ m r. rule_goes (rule_tree m r.body) ∙ resolved_gotos (scope_of m) [] r.body
