use Rattle.std.proofs.Common.{length}
use Rattle.lisa_linker.proofs.fixes.+cell_value.Given as goal

abbrev pub decreases-cell_value : goal.decreases-cell_value
decreases-cell_value l = length l.lines.now
