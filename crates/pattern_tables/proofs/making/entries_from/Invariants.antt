use Rattle.std.proofs.Common.{◌≡◌, ◌++◌, drop}
use Rattle.pattern_tables.specs.Entries.{plain_entries}
use Rattle.pattern_tables.proofs.making.entries_from.Given as goal

abbrev pub invariant-forms : goal.invariant-forms
invariant-forms l = l.entries.items ++ plain_entries l.form (drop l.form l.patterns) (drop l.form l.plain) ≡ plain_entries 0 l.patterns l.plain
