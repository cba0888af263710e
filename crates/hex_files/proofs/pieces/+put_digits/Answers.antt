use Rattle.std.proofs.Common.{arith}
use Rattle.hex_files.proofs.DigitPuts.{digit_put}
use Rattle.hex_files.proofs.pieces.+put_digits.Goals as goal

pub returns : goal.returns
returns t c = digit_put _ _ _ c.args.count c.args.value _ (omega (arith, c.if-count-eq0.false)) c.in_ok-put_digits.ensures c.lower_glyph.ensures c.in_ok-push.ensures.items
