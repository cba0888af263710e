use Rattle.std.proofs.Common.{◌≡◌, drop}
use Rattle.text_tables.specs.Parts.{text_pieces}
use Rattle.text_tables.proofs.texts.first_pieces.Given as goal

abbrev pub invariant-loop-part : goal.invariant-loop-part
invariant-loop-part l = text_pieces l.shared (drop l.part-index l.parts) ≡ text_pieces l.shared l.parts
