use Rattle.test_programs.proofs.machine.a_rule_sends_what_a_bag_holds.Given as goal

abbrev pub ghosts-sends_each : goal.ghosts-sends_each
ghosts-sends_each g a = record { name = a.blank.name; parts = a.blank.parts }
