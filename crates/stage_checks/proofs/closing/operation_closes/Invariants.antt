use Rattle.std.proofs.Common.{◌≡◌, drop, map}
use Rattle.std.specs.List.{list_all}
use Rattle.lisa_tree.specs.Descriptions.{section_tree}
use Rattle.stage_checks.specs.Closing.{section_closes}
use Rattle.stage_checks.proofs.closing.operation_closes.Given as goal

abbrev pub invariant-loop-section : goal.invariant-loop-section
invariant-loop-section l = list_all (section_closes l.in_main) (map section_tree (drop l.section-index l.section-items)) ≡ list_all (section_closes l.in_main) (map section_tree l.operation.sections.items)
