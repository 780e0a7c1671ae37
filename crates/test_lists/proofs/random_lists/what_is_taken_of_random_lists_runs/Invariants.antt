use Rattle.test_lists.proofs.random_lists.what_is_taken_of_random_lists_runs.Given as goal

abbrev pub ghosts-try_lists : goal.ghosts-try_lists
ghosts-try_lists g a = record { name = a.blank.name; parts = a.blank.parts }
