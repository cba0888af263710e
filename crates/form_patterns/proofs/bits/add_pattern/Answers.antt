use Rattle.std.proofs.Common.{subst}
use Rattle.instruction_trees.specs.Bits.{Frame}
use Rattle.form_patterns.specs.Frames.{Adds}
use Rattle.form_patterns.proofs.Framing.{repeated_bits}
use Rattle.form_patterns.proofs.bits.add_pattern.Goals as goal

pub returns-in-Some : goal.returns-in-Some
returns-in-Some c =
    subst (λ (fs : Frame). Adds c.args.bits.now fs c.add_repeated.new.bits)
    (repeated_bits c.args.pattern.now c.as_bytes-digits.result.now c.in-Some.times c.first_digit.result c.as_bytes-digits.ensures c.in-Some.is c.first_digit.ensures)
    c.add_repeated.ensures
