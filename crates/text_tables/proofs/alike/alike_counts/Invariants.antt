use Rattle.text_tables.specs.Alike.{AreAlikeUpTo}
use Rattle.text_tables.specs.Parts.{all_pieces}
use Rattle.text_tables.proofs.alike.alike_counts.Given as goal

abbrev pub invariant-forms : goal.invariant-forms
invariant-forms l = AreAlikeUpTo (all_pieces l.texts) l.form l.counts.items
