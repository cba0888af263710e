use Rattle.std.proofs.Common.{◌≡◌, ◌++◌, drop, map}
use Rattle.std.specs.Prelude.{flat_map}
use Rattle.lisa_tree.specs.Descriptions.{section_tree}
use Rattle.noted_names.specs.Standing.{names_of, in_section}
use Rattle.noted_names.proofs.meeting.add_sections.Given as goal

abbrev pub invariant-each : goal.invariant-each
invariant-each l = names_of l.met.items ++ flat_map in_section (map section_tree (drop l.section-index l.sections)) ≡ names_of l.fn.met.items ++ flat_map in_section (map section_tree l.sections)
