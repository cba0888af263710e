use Rattle.std.proofs.Common.{ℕ, ◌<◌}
use Rattle.pattern_tables.specs.Patterns.{Shelter}
use Rattle.pattern_tables.proofs.covering.is_covered.Given as goal

abbrev pub invariant-forms : goal.invariant-forms
invariant-forms l = (i : ℕ) → i < l.other → Shelter l.patterns l.plain i l.form → ⊥
