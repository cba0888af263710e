use Rattle.std.proofs.Common.{◌≡◌, drop}
use Rattle.hex_files.proofs.NumberLoop.{number_after}
use Rattle.hex_files.proofs.memh_words.number.Given as goal

abbrev pub invariant-loop-byte : goal.invariant-loop-byte
invariant-loop-byte l = number_after l.value (drop l.byte-index l.text) ≡ number_after 0 l.text
