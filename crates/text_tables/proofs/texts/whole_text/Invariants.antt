use Rattle.std.proofs.Common.{◌≡◌, take}
use Rattle.text_tables.specs.Parts.{text_pieces}
use Rattle.text_tables.proofs.texts.whole_text.Given as goal

abbrev pub invariant-loop-part : goal.invariant-loop-part
invariant-loop-part l = l.all.items ≡ text_pieces l.shared (take l.part-index l.parts)
