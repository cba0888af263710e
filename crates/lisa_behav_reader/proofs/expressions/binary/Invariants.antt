use Rattle.std.proofs.Common.{length, ◌<◌, ◌^◌}
use Rattle.lisa_behav_reader.proofs.BinaryLaws.{IsOnTheWay}
use Rattle.lisa_behav_reader.proofs.expressions.binary.Given as goal

abbrev pub invariant-digits : goal.invariant-digits
invariant-digits l = IsOnTheWay l.digits l.value l.left × (l.value < 2 ^ 64)

abbrev pub decreases-digits : goal.decreases-digits
decreases-digits l = length l.left
