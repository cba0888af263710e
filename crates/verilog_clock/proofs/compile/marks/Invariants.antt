use Rattle.std.proofs.Common.{◌≡◌}
use Rattle.verilog_text.specs.Values.{repeated}
use Rattle.verilog_clock.proofs.compile.marks.Given as goal

abbrev pub invariant-each : goal.invariant-each
invariant-each l = l.marks ≡ repeated l.place l.width 1
