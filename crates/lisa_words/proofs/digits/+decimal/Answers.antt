use Rattle.std.proofs.Common.{ap, sym, arith, length}
use Rattle.std.proofs.lemmas.Fmt.{decimal_digit}
use Rattle.lisa_words.proofs.DigitSteps.{decimal_first, decimal_count, decimal_room, decimal_more}
use Rattle.lisa_words.proofs.digits.+decimal.Goals as goal

pub returns-then-value-lt10-clause-digits : goal.returns-then-value-lt10-clause-digits
returns-then-value-lt10-clause-digits t c = decimal_first _ _ c.if-value-lt10.true (omega arith)

pub returns-then-value-lt10-clause-count : goal.returns-then-value-lt10-clause-count
returns-then-value-lt10-clause-count t c = sym (ap length (decimal_digit c.args.value c.if-value-lt10.true))

pub bounds-into-count : goal.bounds-into-count
bounds-into-count t c = decimal_room _ _ c.if-value-lt10.false (omega arith) c.decimal-count.ensures.count

pub returns-clause-digits : goal.returns-clause-digits
returns-clause-digits t c = decimal_more _ _ _ c.if-value-lt10.false (omega arith) (omega (arith, decimal_room _ _ c.if-value-lt10.false (omega arith) c.decimal-count.ensures.count)) c.decimal-count.ensures.digits

pub returns-clause-count : goal.returns-clause-count
returns-clause-count t c = decimal_count _ _ c.if-value-lt10.false (omega arith) c.decimal-count.ensures.count

pub returns-clause-room : goal.returns-clause-room
returns-clause-room t c = omega (arith, decimal_room _ _ c.if-value-lt10.false (omega arith) c.decimal-count.ensures.count)
