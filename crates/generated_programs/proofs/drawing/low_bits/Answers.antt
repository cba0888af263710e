use Rattle.std.proofs.Common.{sym, arith}
use Rattle.std.proofs.Math.Nat.{mod-eq_of_lt}
use Rattle.std.proofs.Math.Pow.{pow_mono}
use Rattle.generated_programs.proofs.drawing.low_bits.Goals as goal

pub returns-else-width-lt64 : goal.returns-else-width-lt64
returns-else-width-lt64 c = sym (mod-eq_of_lt (omega (arith, pow_mono c.if-width-lt64.false)))
