use Rattle.std.proofs.Common.{◌≡◌, ◌≤◌, ◌+◌, drop, filter, length}
use Rattle.activation_trees.specs.Items.{has_bit}
use Rattle.activation_trees.proofs.listing.count_bits.Given as goal

abbrev pub invariant-loop-number : goal.invariant-loop-number
invariant-loop-number l = record {
  few : l.count ≤ l.number;
  sum : l.count + length (filter (has_bit l.place) (drop l.number l.occurrences)) ≡ length (filter (has_bit l.place) l.occurrences);
}
