use Rattle.std.proofs.Common.{◌≤◌, ◌^◌, arith}
use Rattle.std.proofs.Math.Pow.{pow_mono}
use Rattle.lisa_words.proofs.Reduced.{widened}
use Rattle.lisa_words.proofs.arithmetic.widen.Goals as goal

pub overflow_sub-result : goal.overflow_sub-result
overflow_sub-result c = let less : 2 ^ c.args.a.width ≤ 2 ^ c.args.width = pow_mono c.requires.wider in omega arith

pub returns-then-is_negative-clause-bits : goal.returns-then-is_negative-clause-bits
returns-then-is_negative-clause-bits c = widened _ _ _ _ _ _ c.requires.wider c.args.a.fits c.mask.ensures c.mask-then-is_negative.ensures c.if-is_negative.ensures

pub invariant_of-result-2-clause-fits : goal.invariant_of-result-2-clause-fits
invariant_of-result-2-clause-fits c = let less : 2 ^ c.args.a.width ≤ 2 ^ c.args.width = pow_mono c.requires.wider in omega arith
