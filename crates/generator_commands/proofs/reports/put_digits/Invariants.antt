use Rattle.std.proofs.Common.{◌≡◌, ◌++◌, take}
use Rattle.lisa_object.specs.Texts.{digest_digits}
use Rattle.generator_commands.proofs.reports.put_digits.Given as goal

abbrev pub invariant-loop-byte : goal.invariant-loop-byte
invariant-loop-byte l = l.out.items ≡ l.fn.out.items ++ digest_digits (take l.byte-index l.digest)
