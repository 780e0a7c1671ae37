use Rattle.test_programs.proofs.machine.a_machine_runs_on_after_a_fault.Given as goal

abbrev pub ghosts-goes_on_after_a_fault : goal.ghosts-goes_on_after_a_fault
ghosts-goes_on_after_a_fault g a = record { name = a.blank.name; parts = a.blank.parts }
