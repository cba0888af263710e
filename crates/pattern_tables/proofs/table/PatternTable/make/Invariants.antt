use Rattle.std.proofs.Common.{◌≡◌, map, take}
use Rattle.pattern_tables.specs.declared.entry.Entry.{Entry}
use Rattle.pattern_tables.proofs.table.PatternTable.make.Given as goal

abbrev pub invariant-entries : goal.invariant-entries
invariant-entries l = (l.patterns.items ≡ map (λ (e : Entry). e.pattern) (take l.entry-index l.entries)) × (l.forms.items ≡ map (λ (e : Entry). e.form) (take l.entry-index l.entries))
