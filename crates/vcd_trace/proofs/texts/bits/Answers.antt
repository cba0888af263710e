use Rattle.std.proofs.Common.{◌^◌, arith}
use Rattle.lisa_words.proofs.Readings.{stopped, all_read}
use Rattle.vcd_trace.proofs.NumeralLaws.{binary_some, bits_none, bits_some}
use Rattle.vcd_trace.proofs.texts.bits.Goals as goal

pub returns-in-None : goal.returns-in-None
returns-in-None c =
    bits_none c.args.digits.now c.requires (stopped 2 c.args.digits.now c.loop-byte.byte-index c.loop-byte.value c.loop-byte.invariant.1 c.loop-byte-test.true (2 ^ 64) (omega arith) c.in-None.ensures)

pub returns : goal.returns
returns c =
    bits_some c.args.digits.now c.loop-byte.value
    (all_read 2 c.args.digits.now c.loop-byte.byte-index c.loop-byte.value c.loop-byte.invariant.1 (2 ^ 64) c.loop-byte-test.false (binary_some c.args.digits.now c.requires) c.loop-byte.invariant.0)
