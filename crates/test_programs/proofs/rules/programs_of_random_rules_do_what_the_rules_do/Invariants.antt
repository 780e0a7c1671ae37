use Rattle.test_programs.proofs.rules.programs_of_random_rules_do_what_the_rules_do.Given as goal

abbrev pub ghosts-compare_random : goal.ghosts-compare_random
ghosts-compare_random g a = record { name = a.blank.name; parts = a.blank.parts }
