use Rattle.instruction_texts.proofs.TextLaws.{texts_match, matched_plain}
use Rattle.instruction_texts.proofs.laws.lines_without_operands_are_texts.Goals as goal

pub returns-clause-read : goal.returns-clause-read
returns-clause-read c ss vs ts s = texts_match s

pub returns-clause-only : goal.returns-clause-only
returns-clause-only c = matched_plain
