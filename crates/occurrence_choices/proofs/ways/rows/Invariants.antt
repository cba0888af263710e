use Rattle.std.proofs.Common.{◌≡◌, ◌++◌, drop}
use Rattle.occurrence_choices.specs.Standings.{rows_of, all_rows}
use Rattle.occurrence_choices.proofs.ways.rows.Given as goal

abbrev pub invariant-each : goal.invariant-each
invariant-each g l = rows_of l.rows.items ++ all_rows (g.N.Names.tree l.names) (drop l.above-index l.all) ≡ all_rows (g.N.Names.tree l.names) l.all
