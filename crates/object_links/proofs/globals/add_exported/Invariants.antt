use Rattle.std.proofs.Common.{◌≡◌, ◌++◌, drop, map, filter}
use Rattle.std.specs.Prelude.{flat_map}
use Rattle.name_tables.specs.TableViews.{has_name}
use Rattle.lisa_object.specs.Objects.{object_line_tree}
use Rattle.lisa_object.specs.ObjectRules.{defined}
use Rattle.object_links.proofs.globals.add_exported.Given as goal

abbrev pub invariant-loop-line : goal.invariant-loop-line
invariant-loop-line l = map (λ n. n.now) l.names.items ++ filter (λ n. has_name l.shared n) (flat_map defined (map object_line_tree (drop l.line-index l.lines)))
    ≡ map (λ n. n.now) l.fn.names.items ++ filter (λ n. has_name l.shared n) (flat_map defined (map object_line_tree l.lines))
