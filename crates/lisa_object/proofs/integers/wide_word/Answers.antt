use Rattle.std.proofs.Common.{rules}
use Rattle.lisa_object.proofs.WordLaws.{wide_is}
use Rattle.lisa_object.proofs.WideLaws.{too_long}
use Rattle.lisa_object.proofs.integers.wide_word.Goals as goal

pub returns-then-word-gt21-clause-value : goal.returns-then-word-gt21-clause-value
returns-then-word-gt21-clause-value c = wide_is _ c.args.word.now tt tt (λ n lt e. absurd (too_long c.args.word.now c.if-word-gt21.true n lt e))

pub returns-clause-value : goal.returns-clause-value
returns-clause-value c = wide_is c.wide_digits.result c.args.word.now c.wide_digits.ensures.small c.wide_digits.ensures.read c.wide_digits.ensures.found
