use Rattle.std.proofs.Common.{arith}
use Rattle.instruction_texts.specs.Symbols.{has_pieces}
use Rattle.text_tables.specs.Parts.{text_pieces}
use Rattle.form_texts.proofs.Stringed.{pieces_found}
use Rattle.form_texts.proofs.conditions.has_pieces.Goals as goal

pub returns-then-pieces-gt0 : goal.returns-then-pieces-gt0
returns-then-pieces-gt0 c =
    pieces_found c.args.shared.now c.args.parts.now c.loop-part.part-index c.part-item.result c.pieces.result.now c.loop-part-test.true c.part-item.is c.pieces.ensures (has_pieces (text_pieces c.args.shared.now c.args.parts.now)) (omega arith)
    c.loop-part.invariant
