use Rattle.text_tables.specs.Parts.{all_pieces}
use Rattle.text_tables.specs.Reading.{AreKept}
use Rattle.text_tables.proofs.table.beginnings_of.Given as goal

abbrev pub invariant-forms : goal.invariant-forms
invariant-forms l = AreKept (all_pieces l.texts) l.form l.beginnings
