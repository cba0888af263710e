use Rattle.std.proofs.Common.{◌≡◌, ◌-◌, take, length}
use Rattle.lisa_object.specs.Reading.{bytes_of}
use Rattle.lisa_object.proofs.DigestLoop.{bytes_with}
use Rattle.lisa_object.proofs.words.digest_word.Given as goal

abbrev pub invariant-loop-i : goal.invariant-loop-i
invariant-loop-i l = (bytes_with (take l.i l.digest) (bytes_of (32 - l.i) l.rest) ≡ bytes_of 32 l.word) × (length l.digest ≡ 32)
