-- What is left to put back.
use Rattle.std.proofs.Common.{◌≡◌, ◌≤◌, length, drop}
use Rattle.lisa_engine.specs.Touches.{put_back}
use Rattle.moment_stores.specs.Rows.{rows}
use Rattle.moment_stores.proofs.cells.take_back.Given as goal

abbrev pub invariant-each : goal.invariant-each
invariant-each l = (l.left ≤ length l.touches) × (rows l.cells ≡ put_back (drop l.left l.touches) (rows l.fn.cells))

abbrev pub decreases-each : goal.decreases-each
decreases-each l = l.left
