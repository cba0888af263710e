use Rattle.std.proofs.Common.{◌≡◌, drop}
use Rattle.lisa_tree.specs.DescriptionGrammar.{syntax_tokens}
use Rattle.lisa_printer.specs.Sheets.{write_all}
use Rattle.lisa_printer.proofs.sections.put_syntax.Given as goal

abbrev pub invariant-loop-item : goal.invariant-loop-item
invariant-loop-item l = write_all l.page (syntax_tokens (drop l.item-index l.all)) ≡ write_all l.initial.page (syntax_tokens l.all)
