use Rattle.std.proofs.Common.{length}
use Rattle.lisa_assembler.proofs.fixes.+fixes_of.Given as goal

abbrev pub decreases-fixes_of : goal.decreases-fixes_of
decreases-fixes_of l = length l.fields.now
