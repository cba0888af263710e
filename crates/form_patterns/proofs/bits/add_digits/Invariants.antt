-- What is left to add leads to the whole.
use Rattle.std.proofs.Common.{map, drop}
use Rattle.form_patterns.specs.Frames.{digit_bit}
use Rattle.form_patterns.proofs.Adding.{Leads}
use Rattle.form_patterns.proofs.bits.add_digits.Given as goal

abbrev pub invariant-loop-digit : goal.invariant-loop-digit
invariant-loop-digit l = Leads l.initial.bits (map digit_bit l.digits) l.bits (map digit_bit (drop l.digit-index l.digits))
