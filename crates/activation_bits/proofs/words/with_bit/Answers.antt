use Rattle.std.proofs.Common.{◌∙◌, ap, ◌||◌, ◌*◌, ◌%◌, ◌^◌}
use Rattle.activation_bits.specs.Members.{has}
use Rattle.activation_bits.proofs.HasBits.{has_or, has_single}
use Rattle.activation_bits.proofs.words.with_bit.Goals as goal

pub returns : goal.returns
returns c other =
    has_or c.args.word (1 * 2 ^ c.args.bit % 2 ^ 64) other
    ∙ ap (λ b. has c.args.word other || b) (has_single c.args.bit other c.requires)
