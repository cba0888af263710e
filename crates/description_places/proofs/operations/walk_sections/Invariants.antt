-- What is left has the first fault of all.
use Rattle.std.proofs.Common.{◌≡◌, drop, map}
use Rattle.lisa_tree.specs.Descriptions.{section_tree}
use Rattle.description_places.specs.Places.{first, sections_places}
use Rattle.description_places.proofs.operations.walk_sections.Given as goal

abbrev pub invariant-loop-number : goal.invariant-loop-number
invariant-loop-number g l =
    first (g.C.Condition.breaks l.condition) (sections_places l.operation (map section_tree l.sections) 0 (map section_tree l.sections))
    ≡ first (g.C.Condition.breaks l.condition) (sections_places l.operation (map section_tree l.sections) l.number (map section_tree (drop l.number l.sections)))
