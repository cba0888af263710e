use Rattle.std.proofs.Common.{◌≡◌, ◌<◌, ℕ, None, length, get_or}
use Rattle.lisa_tree.specs.Paths.{entry_node}
use Rattle.least_fixed_points.specs.Settles.{entry}
use Rattle.description_types.specs.Kinds.{unrefused}
use Rattle.description_types.proofs.kinds.declared_types.Given as goal

abbrev pub invariant-loop-entry : goal.invariant-loop-entry
invariant-loop-entry g l = record {
  len : length l.declared.items ≡ l.entry;
  each : (i : ℕ) → i < l.entry → get_or l.declared.items i None ≡ unrefused (entry l.types (entry_node (g.N.Names.tree l.names) i));
}
