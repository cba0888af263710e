use Rattle.std.proofs.Common.{◌+◌, length}
use Rattle.least_fixed_points.specs.Settles.{missing}
use Rattle.meant_declarations.specs.Walks.{Walked}
use Rattle.meant_declarations.proofs.walking.origins.Given as goal

abbrev pub invariant-going : goal.invariant-going
invariant-going l = Walked l.next l.starts l.walk.found.items l.walk.work.items

abbrev pub decreases-going : goal.decreases-going
decreases-going l = missing l.walk.found.items + length l.walk.work.items
