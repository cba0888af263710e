use Rattle.std.proofs.Common.{◌≡◌, ◌++◌, drop, map}
use Rattle.lisa_forms.specs.Ways.{ways_under}
use Rattle.lisa_forms.proofs.ways.rows.Given as goal

abbrev pub invariant-loop-above : goal.invariant-loop-above
invariant-loop-above g l =
    map (λ row. row.items) l.rows.items ++ map (ways_under (g.N.Names.tree l.names)) (drop l.above-index l.occurrences) ≡ map (ways_under (g.N.Names.tree l.names)) l.occurrences
