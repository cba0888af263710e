use Rattle.std.proofs.Common.{◌≡◌, ◌++◌, drop}
use Rattle.stage_checks.specs.Graphs.{names_in}
use Rattle.activation_trees.specs.Starting.{names_by}
use Rattle.activation_trees.proofs.activating.activating_names.Given as goal

abbrev pub invariant-loop-name : goal.invariant-loop-name
invariant-loop-name g l =
    names_in l.row.items ++ names_by (g.N.Names.tree l.names) l.operation (names_in (drop l.name-index l.name-items)) ≡ names_by (g.N.Names.tree l.names) l.operation (names_in l.name-items)
