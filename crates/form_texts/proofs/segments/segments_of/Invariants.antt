use Rattle.std.proofs.Common.{drop}
use Rattle.form_texts.specs.Segments.{GoesOn, IsLonger, shown_behind, shown_by}
use Rattle.form_texts.specs.Strings.{AreOpened}
use Rattle.form_texts.proofs.segments.segments_of.Given as goal

abbrev pub invariant-loop-item : goal.invariant-loop-item
invariant-loop-item l = record {
  opened : AreOpened l.table;
  longer : IsLonger l.fn.table.strings.items l.table.strings.items;
  goes_on : GoesOn l.table.strings.items l.growing (shown_behind l.items (drop l.item-index l.rest)) (shown_by l.items l.fn.shown);
}
