use Rattle.std.proofs.Common.{◌≡◌, drop, map}
use Rattle.name_tables.specs.TableViews.{value_of}
use Rattle.lisa_object.specs.Objects.{object_line_tree}
use Rattle.object_links.specs.Firsts.{first_of}
use Rattle.object_links.specs.LineNames.{line_unknown}
use Rattle.object_links.proofs.sections.unknown_in.Given as goal

abbrev pub invariant-loop-line : goal.invariant-loop-line
invariant-loop-line l = first_of (line_unknown (value_of l.widths)) (map object_line_tree (drop l.line-index l.lines)) ≡ first_of (line_unknown (value_of l.widths)) (map object_line_tree l.lines)
