use Rattle.std.proofs.Common.{◌≡◌, ◌≤◌, ◌+◌, ◌-◌, ◌^◌, drop, length}
use Rattle.lisa_tree.specs.Descriptions.{DescriptionTree}
use Rattle.activation_trees.specs.Unfolding.{capped}
use Rattle.activation_trees.specs.Items.{bit_items}
use Rattle.activation_trees.proofs.listing.count_all_bits.Given as goal

abbrev pub invariant-loop-place : goal.invariant-loop-place
invariant-loop-place l = record {
  few : l.count ≤ 2 ^ 64 - 1;
  sum : (d : DescriptionTree) → capped (l.count + length (bit_items d l.occurrences l.place (drop l.place l.stages))) ≡ capped (length (bit_items d l.occurrences 0 l.stages));
}
