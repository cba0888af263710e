use Rattle.std.proofs.Common.{◌≡◌, drop}
use Rattle.std.specs.List.{flat_map}
use Rattle.lisa_printer.specs.CanonicalTokens.{coding_item_tokens}
use Rattle.lisa_printer.specs.Sheets.{write_all}
use Rattle.lisa_printer.proofs.sections.put_coding_items.Given as goal

abbrev pub invariant-loop-item : goal.invariant-loop-item
invariant-loop-item l = write_all l.page (flat_map coding_item_tokens (drop l.item-index l.all)) ≡ write_all l.initial.page (flat_map coding_item_tokens l.all)
