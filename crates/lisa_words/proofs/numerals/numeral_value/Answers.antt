use Rattle.std.proofs.Common.{◌^◌, arith, rules}
use Rattle.lisa_words.proofs.Readings.{stopped, all_read}
use Rattle.lisa_words.proofs.numerals.numeral_value.Goals as goal

pub returns-in-None : goal.returns-in-None
returns-in-None c = stopped c.args.radix c.args.text.now c.loop-byte.byte-index c.loop-byte.value c.loop-byte.invariant.1 c.loop-byte-test.true (2 ^ 64) (omega arith) c.in-None.ensures

pub returns : goal.returns
returns c = all_read c.args.radix c.args.text.now c.loop-byte.byte-index c.loop-byte.value c.loop-byte.invariant.1 (2 ^ 64) c.loop-byte-test.false (search rules) c.loop-byte.invariant.0
