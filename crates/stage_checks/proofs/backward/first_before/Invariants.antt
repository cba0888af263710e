use Rattle.std.proofs.Common.{◌≡◌, drop}
use Rattle.stage_checks.specs.Backward.{first_before}
use Rattle.stage_checks.proofs.backward.first_before.Given as goal

abbrev pub invariant-loop-operation : goal.invariant-loop-operation
invariant-loop-operation g l = first_before (g.N.Names.tree l.names) l.late (drop l.operation-index l.operations) ≡ first_before (g.N.Names.tree l.names) l.late l.operations
