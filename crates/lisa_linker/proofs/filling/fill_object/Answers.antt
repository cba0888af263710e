use Rattle.std.proofs.Common.{◌≡◌, ◌++◌, ℕ, List, map, subst}
use Rattle.std.specs.Prelude.{OnOk}
use Rattle.lisa_object.specs.declared.parts.ObjectLine.{ObjectLine}
use Rattle.lisa_object.specs.Objects.{object_line_tree}
use Rattle.placed_programs.specs.Entries.{entries_of}
use Rattle.placed_programs.specs.Placed.{object_sense, part_cells}
use Rattle.object_links.specs.LineSizes.{count_of}
use Rattle.lisa_linker.specs.Tables.{cells_of}
use Rattle.lisa_linker.proofs.filling.fill_object.Goals as goal

pub returns-clause-added : goal.returns-clause-added
returns-clause-added c = λ shared is.
    let P : List ObjectLine → Type 0 = λ ls. OnOk c.fill_part.result ((m : List ℕ) → cells_of c.fill_part.new.cells m
    ≡ cells_of c.args.cells.now m ++ part_cells object_sense shared m (count_of c.args.counts.now, entries_of (map object_line_tree ls))) in
    subst P c.deref.ensures.value (c.fill_part.ensures.added shared is)
