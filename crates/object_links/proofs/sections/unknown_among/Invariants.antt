use Rattle.std.proofs.Common.{◌≡◌, drop}
use Rattle.name_tables.specs.TableViews.{value_of}
use Rattle.lisa_object.specs.Objects.{object_tree}
use Rattle.object_links.specs.Firsts.{first_of}
use Rattle.object_links.specs.LineNames.{line_unknown}
use Rattle.object_links.proofs.sections.unknown_among.Given as goal

abbrev pub invariant-loop-object : goal.invariant-loop-object
invariant-loop-object l = first_of (λ o. first_of (line_unknown (value_of l.widths)) (object_tree o).lines) (drop l.object-index l.objects) ≡ first_of (λ o. first_of (line_unknown (value_of l.widths)) (object_tree o).lines) l.objects
