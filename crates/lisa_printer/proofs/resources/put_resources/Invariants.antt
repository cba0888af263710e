use Rattle.std.proofs.Common.{◌≡◌, drop, map}
use Rattle.std.specs.List.{flat_map}
use Rattle.lisa_tree.specs.Descriptions.{resource_tree}
use Rattle.lisa_printer.specs.CanonicalTokens.{resource_tokens}
use Rattle.lisa_printer.specs.Sheets.{write_all}
use Rattle.lisa_printer.proofs.resources.put_resources.Given as goal

abbrev pub invariant-loop-resource : goal.invariant-loop-resource
invariant-loop-resource l =
    write_all l.page (flat_map resource_tokens (map resource_tree (drop l.resource-index l.all))) ≡ write_all l.initial.page (flat_map resource_tokens (map resource_tree l.all))
