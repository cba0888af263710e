use Rattle.std.specs.Prelude.{◌-◌}
use Rattle.pattern_tables.proofs.Halving.{Halved}
use Rattle.pattern_tables.proofs.search.place_of.Given as goal

abbrev pub invariant-halves : goal.invariant-halves
invariant-halves g l = Halved l.table.patterns.items l.key l.low l.high (l.steps - l.fn.steps) l.fn.steps l.steps

abbrev pub decreases-halves : goal.decreases-halves
decreases-halves g l = l.high - l.low
