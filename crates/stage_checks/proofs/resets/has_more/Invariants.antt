use Rattle.std.proofs.Common.{◌≡◌, drop, map, not}
use Rattle.std.specs.List.{list_any}
use Rattle.lisa_tree.specs.Descriptions.{section_tree}
use Rattle.stage_checks.specs.Resets.{is_behavior}
use Rattle.stage_checks.proofs.resets.has_more.Given as goal

abbrev pub invariant-loop-section : goal.invariant-loop-section
invariant-loop-section l = list_any (λ s. not (is_behavior s)) (map section_tree (drop l.section-index l.section-items)) ≡ list_any (λ s. not (is_behavior s)) (map section_tree l.operation.sections.items)
