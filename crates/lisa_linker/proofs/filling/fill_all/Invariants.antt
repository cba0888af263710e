use Rattle.std.proofs.Common.{◌≡◌, ◌+◌, ℕ, ℤ, List, drop, map}
use Rattle.std.specs.Map.{lookup}
use Rattle.std.specs.Str.{bytes_eq}
use Rattle.name_tables.specs.TableViews.{value_of}
use Rattle.lisa_object.specs.Objects.{object_tree}
use Rattle.placed_programs.specs.Addresses.{no_cells}
use Rattle.object_links.specs.LineNames.{parts_of}
use Rattle.object_links.specs.LineSizes.{count_of}
use Rattle.lisa_linker.specs.Tables.{cells_of, sizes_of}
use Rattle.lisa_linker.proofs.Filled.{ArePlaced}
use Rattle.lisa_linker.proofs.filling.fill_all.Given as goal

abbrev pub invariant-each : goal.invariant-each
invariant-each l = (l.number ≡ l.object-index)
    × ((m : List ℕ) → count_of l.counts m ≡ sizes_of l.cells m)
    × ((shared : List (List ℕ × ℤ)) → ((n : List ℕ) → value_of l.others n ≡ lookup (bytes_eq n) shared)
    → ArePlaced shared (parts_of (map object_tree l.objects)) no_cells (l.number + 1) (count_of l.counts) (cells_of l.cells) (parts_of (map object_tree (drop l.object-index l.objects))))
