use Rattle.std.proofs.Common.{◌≡◌, drop, map}
use Rattle.std.specs.List.{flat_map}
use Rattle.lisa_tree.specs.Descriptions.{declare_tree}
use Rattle.lisa_printer.specs.CanonicalTokens.{declare_tokens}
use Rattle.lisa_printer.specs.Sheets.{write_all}
use Rattle.lisa_printer.proofs.sections.put_declares.Given as goal

abbrev pub invariant-loop-declare : goal.invariant-loop-declare
invariant-loop-declare l = write_all l.page (flat_map declare_tokens (map declare_tree (drop l.declare-index l.all))) ≡ write_all l.initial.page (flat_map declare_tokens (map declare_tree l.all))
