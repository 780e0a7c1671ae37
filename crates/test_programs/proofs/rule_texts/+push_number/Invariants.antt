use Rattle.test_programs.proofs.rule_texts.+push_number.Given as goal

abbrev pub decreases-push_number : goal.decreases-push_number
decreases-push_number l = l.depth
