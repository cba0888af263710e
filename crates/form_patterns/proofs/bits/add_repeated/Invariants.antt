use Rattle.std.proofs.Common.{replicate}
use Rattle.form_patterns.specs.Frames.{digit_bit, Adds}
use Rattle.form_patterns.proofs.bits.add_repeated.Given as goal

abbrev pub invariant-loop-place : goal.invariant-loop-place
invariant-loop-place l = Adds l.initial.bits (replicate l._place (digit_bit l.digit)) l.bits
