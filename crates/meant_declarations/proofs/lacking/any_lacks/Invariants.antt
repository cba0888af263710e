use Rattle.std.proofs.Common.{◌≡◌, drop}
use Rattle.meant_declarations.specs.Lacking.{any_lacks}
use Rattle.meant_declarations.proofs.lacking.any_lacks.Given as goal

-- of what is left some lack the name where some of all do
abbrev pub invariant-loop-operation : goal.invariant-loop-operation
invariant-loop-operation g l = any_lacks (g.N.Names.tree l.names) l.name l.operations ≡ any_lacks (g.N.Names.tree l.names) l.name (drop l.operation-index l.operations)
