use Rattle.std.proofs.Common.{◌≡◌, ◌≤◌, ◌+◌, drop}
use Rattle.std.specs.Prelude.{fold}
use Rattle.std.specs.Vec.{vec_len, vec_capacity}
use Rattle.lisa_engine.specs.Shape.{AreCells}
use Rattle.lisa_engine.specs.Touches.{Tracks}
use Rattle.verilog_clock.specs.Compiled.{rows, applied}
use Rattle.verilog_clock.specs.Writes.{state_of}
use Rattle.verilog_clock.proofs.writes.apply.Given as goal

abbrev pub invariant-each : goal.invariant-each
invariant-each l = record {
  shape : AreCells l.arrays (rows l.cells);
  left : fold applied (state_of l.values (rows l.cells)) (drop l.update-index l.updates) ≡ fold applied (state_of l.fn.values (rows l.fn.cells)) l.updates;
  tracks : Tracks l.arrays (rows l.fn.cells) (rows l.cells) l.touches.items;
  len : vec_len l.touches ≤ vec_len l.fn.touches + l.update-index;
  room : vec_capacity l.fn.touches ≤ vec_capacity l.touches;
}
