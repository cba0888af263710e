use Rattle.std.proofs.Common.{◌+◌, ◌*◌, ◌∙◌, Bool, ap}
use Rattle.instruction_trees.specs.Bits.{one_if}
use Rattle.form_patterns.specs.Frames.{digit_bit}
use Rattle.form_patterns.proofs.Adding.{adds_bit}
use Rattle.form_patterns.proofs.bits.add_bit.Goals as goal

pub returns : goal.returns
returns c =
    let p = c.args.bits.now in
    adds_bit p (record { mask = c.with_bit-bits.result; pattern = c.with_bit-bits-2.result }) (digit_bit c.args.digit)
    (λ h. c.with_bit-bits.ensures h ∙ ap (λ (b : Bool). p.mask * 2 + one_if b) c.is_literal.ensures)
    (λ h. c.with_bit-bits-2.ensures h ∙ ap (λ (b : Bool). p.pattern * 2 + one_if b) c.is_one.ensures)
