use Rattle.std.proofs.Common.{◌≡◌, ◌<◌, ℕ, length, get_or}
use Rattle.description_types.specs.Uses.{no_traits, own_traits}
use Rattle.description_types.proofs.uses.own_table.Given as goal

abbrev pub invariant-loop-entry : goal.invariant-loop-entry
invariant-loop-entry g l = record {
  len : length l.table.items ≡ l.entry;
  each : (i : ℕ) → i < l.entry → get_or l.table.items i no_traits ≡ own_traits (g.N.Names.tree l.names) i;
}
