use Rattle.lisa_syntax.proofs.TextLines.{lines_of_texts}
use Rattle.lisa_syntax.proofs.laws.texts_are_lines.Goals as goal

pub returns : goal.returns
returns c = λ d k vs t accepted written has instruction. lines_of_texts d written accepted has k vs t instruction
