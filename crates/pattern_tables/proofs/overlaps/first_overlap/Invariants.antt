use Rattle.std.proofs.Common.{ℕ, ◌<◌}
use Rattle.pattern_tables.specs.Patterns.{Clash}
use Rattle.pattern_tables.proofs.overlaps.first_overlap.Given as goal

abbrev pub invariant-forms : goal.invariant-forms
invariant-forms l = (i j : ℕ) → i < l.first → Clash l.patterns l.plain i j → ⊥
