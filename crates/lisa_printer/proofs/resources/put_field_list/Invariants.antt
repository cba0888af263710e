use Rattle.std.proofs.Common.{◌≡◌, drop}
use Rattle.lisa_tree.specs.DescriptionGrammar.{field_tokens}
use Rattle.lisa_printer.specs.Sheets.{write_all}
use Rattle.lisa_printer.proofs.resources.put_field_list.Given as goal

abbrev pub invariant-loop-shape : goal.invariant-loop-shape
invariant-loop-shape l = write_all l.page (field_tokens (drop l.shape-index l.fields)) ≡ write_all l.initial.page (field_tokens l.fields)
