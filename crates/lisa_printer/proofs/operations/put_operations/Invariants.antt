use Rattle.std.proofs.Common.{◌≡◌, drop, map}
use Rattle.std.specs.List.{flat_map}
use Rattle.lisa_tree.specs.Descriptions.{operation_tree}
use Rattle.lisa_printer.specs.CanonicalTokens.{operation_tokens}
use Rattle.lisa_printer.specs.Sheets.{write_all}
use Rattle.lisa_printer.proofs.operations.put_operations.Given as goal

abbrev pub invariant-loop-operation : goal.invariant-loop-operation
invariant-loop-operation l = write_all l.page (flat_map operation_tokens (map operation_tree (drop l.operation-index l.all))) ≡ write_all l.initial.page (flat_map operation_tokens (map operation_tree l.all))
