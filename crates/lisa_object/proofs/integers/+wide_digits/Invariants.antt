use Rattle.std.proofs.Common.{length}
use Rattle.lisa_object.proofs.integers.+wide_digits.Given as goal

abbrev pub decreases-wide_digits : goal.decreases-wide_digits
decreases-wide_digits l = length l.text.now
