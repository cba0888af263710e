use Rattle.std.proofs.Common.{◌+◌, length}
use Rattle.graph_paths.specs.Paths.{unseen}
use Rattle.graph_paths.specs.Going.{Going}
use Rattle.graph_paths.proofs.reaching.reached_from.Given as goal

abbrev pub invariant-going : goal.invariant-going
invariant-going l = Going l.next l.start l.seen.items l.work.items

abbrev pub decreases-going : goal.decreases-going
decreases-going l = unseen l.seen.items + length l.work.items
