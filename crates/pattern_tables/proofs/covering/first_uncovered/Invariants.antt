use Rattle.std.proofs.Common.{ℕ, ◌<◌}
use Rattle.pattern_tables.specs.Patterns.{IsAlias, Shelter}
use Rattle.pattern_tables.proofs.covering.first_uncovered.Given as goal

abbrev pub invariant-forms : goal.invariant-forms
invariant-forms l = (k : ℕ) → k < l.form → IsAlias l.plain k → (i : ℕ) × Shelter l.patterns l.plain i k
