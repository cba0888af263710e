use Rattle.std.proofs.Common.{◌≡◌, ◌≤◌, ◌+◌, drop}
use Rattle.std.specs.Vec.{vec_len, vec_capacity}
use Rattle.verilog_clock.specs.Compiled.{rows, nets_values}
use Rattle.verilog_clock.proofs.edges.settle.Given as goal

abbrev pub invariant-each : goal.invariant-each
invariant-each l = record {
  left : nets_values (rows l.cells) l.values.items (drop l.net-index l.nets) ≡ nets_values (rows l.cells) l.fn.values.items l.nets;
  len : vec_len l.values ≡ vec_len l.fn.values + l.net-index;
  room : vec_capacity l.fn.values ≤ vec_capacity l.values;
}
