use Rattle.std.proofs.Common.{◌+◌, ◌*◌}
use Rattle.test_programs.proofs.rule_texts.+statements.Given as goal

abbrev pub decreases-push_block : goal.decreases-push_block
decreases-push_block l = 3 * l.depth + 1

abbrev pub decreases-push_choice : goal.decreases-push_choice
decreases-push_choice l = 3 * l.depth + 2

abbrev pub decreases-push_loop : goal.decreases-push_loop
decreases-push_loop l = 3 * l.depth + 2

abbrev pub decreases-push_statement : goal.decreases-push_statement
decreases-push_statement l = 3 * l.depth
