use Rattle.std.specs.Prelude.{◌≡◌}
use Rattle.probe_tests.proofs.Numbered.{numbered}
use Rattle.probe_tests.proofs.probes.table.Given as goal

abbrev pub invariant-forms : goal.invariant-forms
invariant-forms l = l.entries.items ≡ numbered l.form
