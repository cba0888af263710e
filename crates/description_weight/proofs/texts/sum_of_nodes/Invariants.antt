-- The sum so far, and that of the occurrences that are left.
use Rattle.std.proofs.Common.{◌≡◌, ◌+◌, ◌^◌, ◌<◌, drop}
use Rattle.std.specs.Prelude.{sum_by}
use Rattle.text_counts.specs.Tables.{told_by}
use Rattle.description_sizes.specs.Sums.{nodes_by}
use Rattle.access_counts.specs.Ledgers.{capped}
use Rattle.description_weight.proofs.texts.sum_of_nodes.Given as goal

abbrev pub invariant-loop-occurrence : goal.invariant-loop-occurrence
invariant-loop-occurrence l = record {
  fits : l.nodes < 2 ^ 64;
  sum : capped (l.nodes + sum_by (nodes_by (told_by l.counts)) (drop l.occurrence-index l.occurrences)) ≡ capped (sum_by (nodes_by (told_by l.counts)) l.occurrences);
}
