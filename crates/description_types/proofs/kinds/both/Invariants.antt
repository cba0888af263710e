use Rattle.std.proofs.Common.{◌≡◌, ◌<◌, ◌&&◌, ℕ, false, length, get_or}
use Rattle.graph_paths.specs.Paths.{saw}
use Rattle.description_types.proofs.kinds.both.Given as goal

abbrev pub invariant-loop-entry : goal.invariant-loop-entry
invariant-loop-entry l = record {
  len : length l.marks.items ≡ l.entry;
  each : (i : ℕ) → i < l.entry → get_or l.marks.items i false ≡ (saw l.left i && saw l.right i);
}
