use Rattle.std.proofs.Common.{◌≡◌, drop, map}
use Rattle.lisa_tree.specs.Descriptions.{section_tree}
use Rattle.lisa_tree.specs.Operations.{declares_in}
use Rattle.lisa_tree.proofs.sections.declares.Given as goal

abbrev pub invariant-loop-section : goal.invariant-loop-section
invariant-loop-section l = declares_in (map section_tree l.sections) ≡ declares_in (map section_tree (drop l.section-index l.sections))
