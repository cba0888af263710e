use Rattle.std.proofs.Common.{◌≡◌, ◌-◌, length}
use Rattle.activation_trees.specs.Twice.{root_before, first_from, first_root_twice}
use Rattle.activation_trees.proofs.counting.first_root_twice.Given as goal

abbrev pub invariant-loop-operation : goal.invariant-loop-operation
invariant-loop-operation g l = record {
  before : l.before ≡ root_before (g.N.Names.tree l.names) l.operation;
  same : first_from (g.N.Names.tree l.names) l.operation (l.operation-end - l.operation) ≡ first_root_twice (g.N.Names.tree l.names);
}
