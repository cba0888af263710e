use Rattle.std.proofs.Common.{◌≡◌, drop}
use Rattle.instruction_texts.specs.Symbols.{has_pieces}
use Rattle.text_tables.specs.Parts.{text_pieces}
use Rattle.form_texts.proofs.conditions.has_pieces.Given as goal

abbrev pub invariant-loop-part : goal.invariant-loop-part
invariant-loop-part l = has_pieces (text_pieces l.shared (drop l.part-index l.parts)) ≡ has_pieces (text_pieces l.shared l.parts)
