use Rattle.std.proofs.Common.{map, length}
use Rattle.std.specs.Option.{option_copied}
use Rattle.lisa_object.specs.Objects.{object_line_tree}
use Rattle.lisa_linker.specs.Tables.{symbols_of, cells_of}
use Rattle.lisa_linker.proofs.Filled.{AreFilled}
use Rattle.lisa_linker.proofs.filling.fill_lines.Given as goal

abbrev pub invariant-each : goal.invariant-each
invariant-each l = AreFilled l.number (symbols_of l.values) (cells_of l.fn.cells) (map object_line_tree l.lines)
    (cells_of l.cells) (option_copied l.here) (map object_line_tree l.left)

abbrev pub decreases-each : goal.decreases-each
decreases-each l = length l.left
