use Rattle.std.proofs.Common.{◌≡◌, ◌≤◌, ◌<◌, ℕ, slice_index_or}
use Rattle.pattern_tables.specs.declared.entry.Entry.{Entry}
use Rattle.pattern_tables.proofs.making.end_of_mask.Given as goal

abbrev pub invariant-run : goal.invariant-run
invariant-run l = (k : ℕ) (d : Entry) → l.start ≤ k → k < l.place → (slice_index_or l.entries k d).mask ≡ l.mask
