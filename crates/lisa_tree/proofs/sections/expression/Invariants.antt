use Rattle.std.proofs.Common.{◌≡◌, drop, map}
use Rattle.lisa_tree.specs.Descriptions.{section_tree}
use Rattle.lisa_tree.specs.Operations.{expression_in}
use Rattle.lisa_tree.proofs.sections.expression.Given as goal

abbrev pub invariant-loop-section : goal.invariant-loop-section
invariant-loop-section l = expression_in (map section_tree l.sections) ≡ expression_in (map section_tree (drop l.section-index l.sections))
