use Rattle.std.proofs.Common.{ℕ, ◌<◌}
use Rattle.pattern_tables.specs.Patterns.{Clash}
use Rattle.pattern_tables.proofs.overlaps.overlap_with.Given as goal

abbrev pub invariant-later : goal.invariant-later
invariant-later l = (j : ℕ) → j < l.second → Clash l.patterns l.plain l.first j → ⊥
