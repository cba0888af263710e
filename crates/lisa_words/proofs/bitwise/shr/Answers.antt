use Rattle.std.proofs.Common.{◌≡◌, ◌∙◌, ap}
use Rattle.lisa_words.specs.Words.{word_not}
use Rattle.lisa_words.proofs.Reduced.{moved_down}
use Rattle.lisa_words.proofs.bitwise.shr.Goals as goal

pub returns-then-is_negative-clause-bits : goal.returns-then-is_negative-clause-bits
returns-then-is_negative-clause-bits c =
    let same : c.lowered.result.width ≡ c.args.a.width = c.lowered.ensures.width ∙ c.not.ensures.width in
    c.not-then-is_negative.ensures.bits ∙ ap (λ k. word_not k c.lowered.result.bits) same
    ∙ moved_down c.args.a.width c.args.a.bits c.args.by _ _ _ c.args.a.fits c.not.ensures.bits c.lowered.ensures.bits c.if-is_negative.ensures
