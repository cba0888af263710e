use Rattle.instruction_texts.proofs.SpelledTexts.{Writing}
use Rattle.instruction_texts.proofs.writing.text_of.Given as goal

abbrev pub invariant-shapes : goal.invariant-shapes
invariant-shapes l = Writing l.fn.shapes l.fn.values l.shape-index l.text.bytes.items l.text.behind_run l.rest
