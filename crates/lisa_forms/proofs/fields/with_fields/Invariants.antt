use Rattle.pattern_tables.proofs.Weighing.{Added}
use Rattle.lisa_forms.proofs.fields.with_fields.Given as goal

abbrev pub invariant-fields : goal.invariant-fields
invariant-fields l = Added l.pattern l.fields l.places l.i l.word
