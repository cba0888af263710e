use Rattle.std.proofs.Common.{arith}
use Rattle.instruction_texts.proofs.SpelledTexts.{all_written}
use Rattle.instruction_texts.proofs.writing.text_of.Goals as goal

pub returns : goal.returns
returns c = record { exact = all_written c.args.shapes.now c.args.values.now c.shapes.shape-index c.shapes.text.bytes.items c.shapes.text.behind_run c.shapes.rest.now (omega arith) c.requires.sized c.requires.holds c.shapes.invariant }
