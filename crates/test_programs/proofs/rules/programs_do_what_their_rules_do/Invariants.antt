use Rattle.test_programs.proofs.rules.programs_do_what_their_rules_do.Given as goal

abbrev pub ghosts-compare_texts : goal.ghosts-compare_texts
ghosts-compare_texts g a = record { name = a.blank.name; parts = a.blank.parts }
