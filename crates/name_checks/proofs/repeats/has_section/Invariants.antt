use Rattle.std.proofs.Common.{◌≡◌, drop, map}
use Rattle.std.specs.List.{list_any}
use Rattle.lisa_tree.specs.Descriptions.{section_tree}
use Rattle.name_checks.specs.Doubled.{is_of}
use Rattle.name_checks.proofs.repeats.has_section.Given as goal

abbrev pub invariant-loop-section : goal.invariant-loop-section
invariant-loop-section l = list_any (is_of l.region) (map section_tree l.sections) ≡ list_any (is_of l.region) (map section_tree (drop l.section-index l.sections))
