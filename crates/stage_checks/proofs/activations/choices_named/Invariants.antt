use Rattle.std.proofs.Common.{◌≡◌, ◌++◌, drop}
use Rattle.stage_checks.specs.Running.{choices_named}
use Rattle.stage_checks.specs.Graphs.{names_in}
use Rattle.stage_checks.proofs.activations.choices_named.Given as goal

abbrev pub invariant-loop-name : goal.invariant-loop-name
invariant-loop-name g l =
    l.row.items ++ choices_named (g.N.Names.tree l.names) l.operation (names_in (drop l.name-index l.all)) ≡ choices_named (g.N.Names.tree l.names) l.operation (names_in l.all)
