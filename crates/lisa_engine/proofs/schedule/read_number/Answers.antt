use Rattle.std.proofs.Common.{rules, ◌<◌, ◌^◌}
use Rattle.std.specs.Prelude.{IfSome}
use Rattle.lisa_engine.proofs.Numbers.{hex_is, decimal_is}
use Rattle.lisa_engine.proofs.schedule.read_number.Goals as goal

pub returns-in-Some : goal.returns-in-Some
returns-in-Some c = let h = c.in-Some.ensures.cases in rw (h.0, ← h.1) (hex_is _ _ c.hex_value.ensures)

pub returns-in-None : goal.returns-in-None
returns-in-None c =
    let h = c.in-None.ensures.cases in
    let fits : IfSome c.canonical_decimal.result (λ n. n < 2 ^ 64) = search rules in
    rw h (decimal_is _ _ fits c.canonical_decimal.ensures.read c.canonical_decimal.ensures.found)
