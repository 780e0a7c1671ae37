use Rattle.test_programs.proofs.machine.a_rule_walks_what_has_arrived.Given as goal

abbrev pub ghosts-adds_up : goal.ghosts-adds_up
ghosts-adds_up g a = record { name = a.blank.name; parts = a.blank.parts }
