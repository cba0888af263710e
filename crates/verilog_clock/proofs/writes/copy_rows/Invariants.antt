use Rattle.std.proofs.Common.{◌≡◌, map, take}
use Rattle.std.specs.Vec.{vec_len}
use Rattle.verilog_clock.specs.Compiled.{rows}
use Rattle.verilog_clock.proofs.writes.copy_rows.Given as goal

abbrev pub invariant-each : goal.invariant-each
invariant-each l = (map (λ row. vec_len row) l.cells ≡ map (λ row. vec_len row) l.from) × (take l.place (rows l.cells) ≡ take l.place (rows l.from))
