use Rattle.std.proofs.Common.{◌≡◌, ◌++◌, drop}
use Rattle.stage_checks.specs.Graphs.{names_in}
use Rattle.activation_trees.specs.Starting.{starts_named}
use Rattle.activation_trees.proofs.starts.starts_named.Given as goal

abbrev pub invariant-loop-name : goal.invariant-loop-name
invariant-loop-name g l =
    l.row.items ++ starts_named (g.N.Names.tree l.names) l.operation (names_in (drop l.name-index l.all)) ≡ starts_named (g.N.Names.tree l.names) l.operation (names_in l.all)
