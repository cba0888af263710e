use Rattle.std.proofs.Common.{ap, length, arith}
use Rattle.lowered_behaviors.proofs.positions.+home.Goals as goal

pub home-requires : goal.home-requires
home-requires t c = (omega (arith, ap length c.in-Some.ensures, c.decreases), tt)
