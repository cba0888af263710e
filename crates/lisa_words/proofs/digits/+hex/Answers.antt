use Rattle.std.proofs.Common.{ap, sym, arith, length}
use Rattle.lisa_words.proofs.HexDigits.{hex_digit}
use Rattle.lisa_words.proofs.DigitSteps.{hex_first, hex_count, hex_room, hex_more}
use Rattle.lisa_words.proofs.digits.+hex.Goals as goal

pub returns-then-value-lt16-clause-digits : goal.returns-then-value-lt16-clause-digits
returns-then-value-lt16-clause-digits t c = hex_first _ _ _ c.if-value-lt16.true (omega arith) c.hex_glyph.ensures

pub returns-then-value-lt16-clause-count : goal.returns-then-value-lt16-clause-count
returns-then-value-lt16-clause-count t c = sym (ap length (hex_digit c.args.value c.if-value-lt16.true))

pub bounds-into-count : goal.bounds-into-count
bounds-into-count t c = hex_room _ _ c.if-value-lt16.false (omega arith) c.hex-count.ensures.count

pub returns-clause-digits : goal.returns-clause-digits
returns-clause-digits t c = hex_more _ _ _ _ c.if-value-lt16.false (omega arith) (omega (arith, hex_room _ _ c.if-value-lt16.false (omega arith) c.hex-count.ensures.count)) c.hex-count.ensures.digits c.hex_glyph-2.ensures

pub returns-clause-count : goal.returns-clause-count
returns-clause-count t c = hex_count _ _ c.if-value-lt16.false (omega arith) c.hex-count.ensures.count

pub returns-clause-room : goal.returns-clause-room
returns-clause-room t c = omega (arith, hex_room _ _ c.if-value-lt16.false (omega arith) c.hex-count.ensures.count)
