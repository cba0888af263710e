use Rattle.std.proofs.Common.{◌≡◌, ◌≤◌, length, drop}
use Rattle.lisa_engine.specs.Touches.{put_back}
use Rattle.verilog_clock.specs.Compiled.{rows}
use Rattle.verilog_clock.proofs.writes.take_back.Given as goal

abbrev pub invariant-each : goal.invariant-each
invariant-each l = (l.left ≤ length l.touches) × (rows l.cells ≡ put_back (drop l.left l.touches) (rows l.fn.cells))

abbrev pub decreases-each : goal.decreases-each
decreases-each l = l.left
