use Rattle.std.proofs.Common.{refl}
use Rattle.instruction_texts.proofs.OneText.{one_values, text_is_one}
use Rattle.instruction_texts.proofs.TextLaws.{some_text, spelled_held}
use Rattle.instruction_texts.proofs.laws.texts_and_values_are_one.Goals as goal

pub returns-clause-values : goal.returns-clause-values
returns-clause-values c ss vs ws ts a b = one_values a b refl

pub returns-clause-text : goal.returns-clause-text
returns-clause-text c ss vs ts us wide a b = text_is_one wide a b refl

pub returns-clause-some : goal.returns-clause-some
returns-clause-some c = some_text

pub returns-clause-held : goal.returns-clause-held
returns-clause-held c = spelled_held
