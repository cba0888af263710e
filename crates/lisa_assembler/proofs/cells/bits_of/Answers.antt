use Rattle.std.proofs.Common.{◌≤◌, ◌-◌, ◌^◌, ℕ, arith}
use Rattle.std.proofs.lemmas.Int.{ints}
use Rattle.std.proofs.Math.Pow.{pow_mono}
use Rattle.lisa_assembler.proofs.cells.bits_of.Goals as goal

pub overflow_cast-result : goal.overflow_cast-result
overflow_cast-result c =
    let w : ℕ = c.args.width in
    let half : 2 ^ (w - 1) ≤ 2 ^ w = pow_mono {i = w - 1} {j = w} (omega arith) in
    let whole : 2 ^ w ≤ 2 ^ 64 = pow_mono {i = w} {j = 64} (omega arith) in
    omega (arith, ints, half, whole, c.power.ensures, c.requires.fits.low, c.requires.fits.high)
