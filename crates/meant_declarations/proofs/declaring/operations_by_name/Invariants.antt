use Rattle.std.proofs.Common.{◌<◌, ℕ}
use Rattle.meant_declarations.specs.Declaring.{IsNoted}
use Rattle.meant_declarations.proofs.declaring.operations_by_name.Given as goal

abbrev pub invariant-loop-entry : goal.invariant-loop-entry
invariant-loop-entry g l = (i : ℕ) → i < l.entry → IsNoted (g.N.Names.tree l.names) l.table i
