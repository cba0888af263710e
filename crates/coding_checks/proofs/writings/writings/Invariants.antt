use Rattle.std.proofs.Common.{◌≡◌, ◌<◌, ℕ, length, map, get_or}
use Rattle.lisa_tree.specs.Descriptions.{section_tree}
use Rattle.lisa_tree.specs.Operations.{sections_at}
use Rattle.coding_checks.specs.Written.{no_writing, writing_at}
use Rattle.coding_checks.proofs.writings.writings.Given as goal

abbrev pub invariant-loop-entry : goal.invariant-loop-entry
invariant-loop-entry g l = record {
  len : length l.table.items ≡ l.entry;
  at : map section_tree l.written.names.sections.now ≡ sections_at (g.N.Names.tree l.names) l.owner;
  each : (i : ℕ) → i < l.entry → get_or l.table.items i no_writing ≡ writing_at (g.N.Names.tree l.names) i;
}
