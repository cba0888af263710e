use Rattle.std.proofs.Common.{◌<◌, ◌^◌, drop}
use Rattle.lisa_words.proofs.Readings.{SoFar}
use Rattle.lisa_words.proofs.numerals.numeral_value.Given as goal

abbrev pub invariant-loop-byte : goal.invariant-loop-byte
invariant-loop-byte l = (l.value < 2 ^ 64) × SoFar l.radix l.text (drop l.byte-index l.text) l.value
