-- The depth so far and that of the sections that are left make that of all.
use Rattle.std.proofs.Common.{◌≡◌, ◌-◌, ◌^◌, max, min, drop, map}
use Rattle.lisa_tree.specs.Descriptions.{section_tree, sections_depth}
use Rattle.lisa_tree.proofs.depths.operation_depth.Given as goal

abbrev pub invariant-loop-section : goal.invariant-loop-section
invariant-loop-section l =
    max l.deepest (min (sections_depth (map section_tree (drop l.section-index l.o.sections.items))) (2 ^ 32 - 1))
    ≡ min (sections_depth (map section_tree l.o.sections.items)) (2 ^ 32 - 1)
