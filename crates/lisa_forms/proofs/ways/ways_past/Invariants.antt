use Rattle.std.proofs.Common.{◌≡◌, ◌++◌, ℕ, List, drop, map}
use Rattle.stage_checks.specs.Graphs.{names_in}
use Rattle.lisa_forms.specs.declared.way.Way.{Way}
use Rattle.lisa_forms.specs.Choosing.{child_place}
use Rattle.lisa_forms.specs.Ways.{by_place}
use Rattle.lisa_forms.proofs.ways.ways_past.Given as goal

abbrev pub invariant-loop-name : goal.invariant-loop-name
invariant-loop-name g l =
    let way : List ℕ → Way = λ n. by_place (child_place (g.N.Names.tree l.names) l.operation n) in
    l.row.items ++ map way (names_in (drop l.name-index l.name-items)) ≡ map way (names_in l.name-items)
