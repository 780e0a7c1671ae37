use Rattle.test_programs.proofs.rule_texts.+push_truth.Given as goal

abbrev pub decreases-push_truth : goal.decreases-push_truth
decreases-push_truth l = l.depth
