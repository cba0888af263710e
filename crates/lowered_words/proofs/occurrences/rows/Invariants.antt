use Rattle.std.proofs.Common.{◌≡◌, ◌++◌, drop}
use Rattle.lowered_words.specs.Kept.{rows_of, all_rows}
use Rattle.lowered_words.proofs.occurrences.rows.Given as goal

abbrev pub invariant-each : goal.invariant-each
invariant-each g l = rows_of l.rows.items ++ all_rows (g.N.Names.tree l.names) (drop l.above-index l.all) ≡ all_rows (g.N.Names.tree l.names) l.all
