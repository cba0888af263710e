-- The most so far, and what is left.
use Rattle.std.proofs.Common.{◌≡◌, drop, map, max}
use Rattle.lisa_tree.specs.Descriptions.{section_tree}
use Rattle.behavior_runs.specs.Rooms.{sections_locals}
use Rattle.behavior_runs.proofs.counts.count_sections.Given as goal

abbrev pub invariant-each : goal.invariant-each
invariant-each l = max l.most (sections_locals (map section_tree (drop l.section-index l.sections))) ≡ sections_locals (map section_tree l.sections)
