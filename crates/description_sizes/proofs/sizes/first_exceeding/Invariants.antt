-- What is left has the same first size that exceeds its limit.
use Rattle.std.proofs.Common.{◌≡◌, drop}
use Rattle.std.specs.Prelude.{find}
use Rattle.description_sizes.specs.Limits.{exceeds}
use Rattle.description_sizes.proofs.sizes.first_exceeding.Given as goal

abbrev pub invariant-loop-size : goal.invariant-loop-size
invariant-loop-size l = find exceeds (drop l.size-index l.sizes) ≡ find exceeds l.sizes
