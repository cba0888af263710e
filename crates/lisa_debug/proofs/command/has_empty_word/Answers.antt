use Rattle.std.proofs.Common.{◌∙◌}
use Rattle.lisa_debug.specs.Commands.{is_empty_word}
use Rattle.lisa_debug.proofs.WordLists.{any_map}
use Rattle.lisa_debug.proofs.command.has_empty_word.Goals as goal

pub returns : goal.returns
returns c = c.is_any_empty.ensures ∙ any_map is_empty_word (λ w. w.now) c.args.words.now
