use Rattle.std.proofs.Common.{◌∙◌}
use Rattle.lisa_board.specs.BoardLines.{is_empty_word}
use Rattle.lisa_board.proofs.BoardReads.{any_map}
use Rattle.lisa_board.proofs.line.has_empty_word.Goals as goal

pub returns : goal.returns
returns c = c.is_any_empty.ensures ∙ any_map is_empty_word (λ w. w.now) c.args.words.now
