use Rattle.std.proofs.Common.{◌≡◌, drop}
use Rattle.verilog_places.specs.WidePlaces.{wide_inputs}
use Rattle.verilog_size_checks.proofs.measures.wide_inputs.Given as goal

abbrev pub invariant-each : goal.invariant-each
invariant-each l = wide_inputs (drop l.input-index l.inputs) ≡ wide_inputs l.inputs
