use Rattle.std.proofs.Common.{length}
use Rattle.lowered_behaviors.proofs.positions.+way.Given as goal

abbrev pub decreases-way : goal.decreases-way
decreases-way l = length l.positions.now
