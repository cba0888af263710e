use Rattle.form_texts.specs.Strings.{AreOpened}
use Rattle.form_texts.proofs.Segmented.{Templated}
use Rattle.form_texts.proofs.segments.Templates.make.Given as goal

abbrev pub invariant-loop-operation : goal.invariant-loop-operation
invariant-loop-operation g l = record {
  opened : AreOpened l.table;
  written : Templated (g.N.Names.tree l.names) l.operation l.table.strings.items l.segments.items;
}
