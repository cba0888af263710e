use Rattle.std.proofs.Common.{◌≡◌, ◌<◌, ℕ, false, length, get_or}
use Rattle.description_types.proofs.meant.marks.Given as goal

abbrev pub invariant-loop-entry : goal.invariant-loop-entry
invariant-loop-entry g l = record {
  len : length l.marks.items ≡ l.entry;
  each : (i : ℕ) → i < l.entry → get_or l.marks.items i false ≡ g.P.Property.holds l.property i;
}
