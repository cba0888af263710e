use Rattle.std.proofs.Common.{◌≡◌, ℕ, ◌||◌, List, drop, map}
use Rattle.std.specs.Prelude.{flat_map}
use Rattle.std.specs.List.{list_any}
use Rattle.std.specs.Str.{bytes_eq}
use Rattle.name_tables.specs.TableViews.{has_name}
use Rattle.lisa_object.specs.Objects.{object_line_tree}
use Rattle.object_links.specs.LineNames.{line_shares}
use Rattle.object_links.proofs.names.shared_names.Given as goal

abbrev pub invariant-loop-line : goal.invariant-loop-line
invariant-loop-line l = (n : List ℕ) → (list_any (bytes_eq n) (flat_map line_shares (map object_line_tree (drop l.line-index l.lines))) || has_name l.set n) ≡ list_any (bytes_eq n) (flat_map line_shares (map object_line_tree l.lines))
