use Rattle.std.proofs.Common.{◌≡◌, drop}
use Rattle.instruction_texts.specs.Symbols.{is_dotted}
use Rattle.text_tables.specs.Parts.{text_pieces}
use Rattle.form_texts.proofs.conditions.is_dotted.Given as goal

abbrev pub invariant-loop-part : goal.invariant-loop-part
invariant-loop-part l = is_dotted (text_pieces l.table.shared.items (drop l.part-index l.parts)) ≡ is_dotted (text_pieces l.table.shared.items l.parts)
