-- With the arrays that are left all pairs are counted.
use Rattle.std.proofs.Common.{◌≡◌, ◌+◌, ◌-◌, ◌*◌, ◌^◌, ◌<◌, get_or, length}
use Rattle.std.specs.Prelude.{sum_by}
use Rattle.std.specs.List.{range_with_len}
use Rattle.access_counts.specs.Ledgers.{capped}
use Rattle.description_weight.proofs.pairs.sum_of_products.Given as goal

abbrev pub invariant-loop-array : goal.invariant-loop-array
invariant-loop-array l = record {
  fits : l.sum < 2 ^ 64;
  rest : capped (l.sum + sum_by (λ k. get_or l.reads k 0 * get_or l.writes k 0) (range_with_len l.array (length l.reads - l.array))) ≡ capped (sum_by (λ k. get_or l.reads k 0 * get_or l.writes k 0) (range_with_len 0 (length l.reads)));
}
