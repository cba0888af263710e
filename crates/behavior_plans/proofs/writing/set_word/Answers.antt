use Rattle.std.proofs.lemmas.List.{map-set}
use Rattle.typed_values.specs.Words.{typed_word}
use Rattle.behavior_plans.proofs.writing.set_word.Goals as goal

pub returns-then-place-len : goal.returns-then-place-len
returns-then-place-len c = map-set typed_word c.args.words.now.items c.args.place c.args.value
