use Rattle.std.proofs.Common.{◌≤◌, ◌<◌, ◌^◌, sym, arith}
use Rattle.std.proofs.Math.Nat.{mod-eq_of_lt, pow-le-pow_right}
use Rattle.netlist_build.proofs.lowering.refit_number.Goals as goal

pub returns-then-to-ge64 : goal.returns-then-to-ge64
returns-then-to-ge64 c =
    let at_least : 64 ≤ c.args.to = omega (arith, c.if-to-ge64.true) in
    let wide : 2 ^ 64 ≤ 2 ^ c.args.to = pow-le-pow_right {n = 2} (omega arith) at_least in
    let low : c.args.bits < 2 ^ c.args.to = omega (arith, wide, c.ranges.bits.fits) in
    sym (mod-eq_of_lt low)
