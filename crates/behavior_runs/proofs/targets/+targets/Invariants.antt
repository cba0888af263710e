-- The levels fall with each child.
use Rattle.std.proofs.Common.{◌+◌, ◌*◌}
use Rattle.behavior_runs.proofs.targets.+targets.Given as goal

abbrev pub decreases-put : goal.decreases-put
decreases-put l = 3 * l.levels + 2

abbrev pub decreases-put_meant : goal.decreases-put_meant
decreases-put_meant l = 3 * l.levels + 1

abbrev pub decreases-put_child : goal.decreases-put_child
decreases-put_child l = 3 * l.levels
