use Rattle.std.proofs.Common.{◌≡◌, drop, map}
use Rattle.std.specs.List.{flat_map}
use Rattle.lisa_tree.specs.Descriptions.{section_tree}
use Rattle.lisa_printer.specs.CanonicalTokens.{section_tokens}
use Rattle.lisa_printer.specs.Sheets.{write_all}
use Rattle.lisa_printer.proofs.sections.put_sections.Given as goal

abbrev pub invariant-loop-section : goal.invariant-loop-section
invariant-loop-section l = write_all l.page (flat_map section_tokens (map section_tree (drop l.section-index l.all))) ≡ write_all l.initial.page (flat_map section_tokens (map section_tree l.all))
