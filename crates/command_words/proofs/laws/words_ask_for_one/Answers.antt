use Rattle.std.proofs.Common.{◌∙◌, sym}
use Rattle.lisa_outcomes.proofs.Told.{some_is}
use Rattle.command_words.proofs.laws.words_ask_for_one.Goals as goal

pub returns : goal.returns
returns c = λ first second one other. some_is (sym (c.request.ensures.only first one) ∙ c.request.ensures.only second other)
