use Rattle.std.proofs.Common.{length}
use Rattle.lowered_behaviors.proofs.positions.+home.Given as goal

abbrev pub decreases-home : goal.decreases-home
decreases-home l = length l.positions.now
