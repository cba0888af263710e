use Rattle.std.proofs.Common.{◌≡◌, ◌||◌, not, drop, map}
use Rattle.std.specs.Prelude.{find, flat_map}
use Rattle.name_tables.specs.TableViews.{has_name}
use Rattle.lisa_object.specs.Objects.{object_line_tree}
use Rattle.object_links.specs.LineNames.{line_uses}
use Rattle.object_links.proofs.undefined.unknown_name.Given as goal

abbrev pub invariant-loop-line : goal.invariant-loop-line
invariant-loop-line l = find (λ n. not (has_name l.own n || has_name l.others n)) (flat_map line_uses (map object_line_tree (drop l.line-index l.lines)))
    ≡ find (λ n. not (has_name l.own n || has_name l.others n)) (flat_map line_uses (map object_line_tree l.lines))
