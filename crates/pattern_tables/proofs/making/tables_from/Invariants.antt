use Rattle.std.proofs.Common.{length, ◌-◌}
use Rattle.pattern_tables.proofs.Grouping.{Tabled}
use Rattle.pattern_tables.proofs.making.tables_from.Given as goal

abbrev pub invariant-masks : goal.invariant-masks
invariant-masks l = Tabled l.entries l.start l.tables.items

abbrev pub decreases-masks : goal.decreases-masks
decreases-masks l = length l.entries - l.start
