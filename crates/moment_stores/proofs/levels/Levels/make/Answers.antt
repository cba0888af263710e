use Rattle.std.proofs.Common.{arith, rules}
use Rattle.moment_stores.proofs.Noted.{none_at_first}
use Rattle.moment_stores.proofs.levels.Levels.make.Goals as goal

pub invariant_of-result : goal.invariant_of-result
invariant_of-result c = record {
  sound = none_at_first c.in_ok-noted.noted.items c.in_ok-marks.marks.items _ c.args.count (search rules) (search rules) (omega (arith, c.in_ok-noted.ensures.exact));
}
