use Rattle.std.proofs.Common.{ℕ, List, Option, map, ap, ◌∙◌}
use Rattle.name_tables.specs.TableViews.{value_of}
use Rattle.lisa_object.specs.Objects.{object_tree}
use Rattle.object_links.specs.Firsts.{first_of}
use Rattle.object_links.specs.LinkFaults.{unknown}
use Rattle.object_links.specs.LineNames.{parts_of}
use Rattle.object_links.proofs.ByLines.{unknown_objects}
use Rattle.object_links.proofs.sections.first_unknown.Goals as goal

pub returns : goal.returns
returns c =
    c.unknown_among.ensures
    ∙ unknown_objects (value_of c.in_ok-widths.widths) c.args.objects.now
    ∙ ap (λ (widths : List ℕ → Option ℕ). first_of (first_of (unknown widths)) (parts_of (map object_tree c.args.objects.now))) (λ i n. c.in_ok-widths.ensures n i)
