use Rattle.std.proofs.Common.{◌≡◌, ◌<◌, ℕ, length, map, get_or}
use Rattle.lisa_tree.specs.Descriptions.{section_tree}
use Rattle.lisa_tree.specs.Operations.{sections_at}
use Rattle.description_types.specs.Codings.{no_coding, coding_at}
use Rattle.description_types.proofs.codings.codings.Given as goal

abbrev pub invariant-loop-entry : goal.invariant-loop-entry
invariant-loop-entry g l = record {
  len : length l.table.items ≡ l.entry;
  coded : map section_tree l.coded.sections.now ≡ sections_at (g.N.Names.tree l.names) l.owner;
  each : (i : ℕ) → i < l.entry → get_or l.table.items i no_coding ≡ coding_at (g.N.Names.tree l.names) i;
}
