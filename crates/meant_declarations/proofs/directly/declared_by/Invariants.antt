use Rattle.std.proofs.Common.{◌≡◌, ◌++◌, drop}
use Rattle.meant_declarations.specs.Meanings.{declared_by}
use Rattle.meant_declarations.proofs.directly.declared_by.Given as goal

abbrev pub invariant-loop-operation : goal.invariant-loop-operation
invariant-loop-operation g l =
    l.found.items ++ declared_by (g.N.Names.tree l.names) l.name (drop l.operation-index l.operations) ≡ declared_by (g.N.Names.tree l.names) l.name l.operations
