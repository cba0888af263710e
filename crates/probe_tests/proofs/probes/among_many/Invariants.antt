use Rattle.probe_tests.proofs.probes.among_many.Given as goal

abbrev pub ghosts-many_counted : goal.ghosts-many_counted
ghosts-many_counted a = record { name = a.blank.name; parts = a.blank.parts }
