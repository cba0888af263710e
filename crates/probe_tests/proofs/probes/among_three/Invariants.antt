use Rattle.probe_tests.proofs.probes.among_three.Given as goal

abbrev pub ghosts-three_counted : goal.ghosts-three_counted
ghosts-three_counted a = record { name = a.blank.name; parts = a.blank.parts }
