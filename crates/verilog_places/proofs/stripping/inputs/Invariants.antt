use Rattle.std.proofs.Common.{◌≡◌}
use Rattle.verilog_places.specs.Trees.{bare_inputs}
use Rattle.verilog_places.proofs.stripping.inputs.Given as goal

abbrev pub invariant-each : goal.invariant-each
invariant-each l = l.all.items ≡ bare_inputs l.yielded
