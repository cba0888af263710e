use Rattle.std.proofs.Common.{◌≡◌, ◌+◌, drop}
use Rattle.hex_files.specs.MemhReading.{word_len}
use Rattle.hex_files.proofs.memh_words.word_len.Given as goal

abbrev pub invariant-loop-place : goal.invariant-loop-place
invariant-loop-place l = l.place + word_len (drop l.place l.text) ≡ word_len l.text
