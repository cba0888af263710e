use Rattle.std.proofs.Common.{◌≡◌, ◌-◌, length}
use Rattle.lisa_meaning.specs.coding_tables.Instructions.{first_root, root_from}
use Rattle.scene_paths.proofs.lookups.first_root.Given as goal

abbrev pub invariant-each : goal.invariant-each
invariant-each g l =
    let d = g.N.Names.tree l.names in
    first_root d ≡ root_from d l.operation (length d.operations - l.operation)
