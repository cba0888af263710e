use Rattle.std.proofs.Common.{◌<◌, ◌^◌, drop}
use Rattle.lisa_words.proofs.Readings.{SoFar}
use Rattle.vcd_trace.proofs.texts.bits.Given as goal

abbrev pub invariant-loop-byte : goal.invariant-loop-byte
invariant-loop-byte l = (l.value < 2 ^ 64) × SoFar 2 l.digits (drop l.byte-index l.digits) l.value
