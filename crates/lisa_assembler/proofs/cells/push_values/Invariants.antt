use Rattle.std.proofs.Common.{◌≡◌, ◌++◌, drop, map}
use Rattle.std.specs.Prelude.{All}
use Rattle.asm_source.specs.Plain.{value_tree}
use Rattle.asm_source.specs.declared.flaw.SourceFault.{SourceFault}
use Rattle.lisa_object.specs.Objects.{object_line_tree}
use Rattle.lisa_assembler.specs.Cells.{values_lines}
use Rattle.lisa_assembler.specs.Faults.{IsRangeFault}
use Rattle.lisa_assembler.specs.Sources.{FitsCell}
use Rattle.lisa_assembler.proofs.cells.push_values.Given as goal

abbrev pub invariant-loop-value : goal.invariant-loop-value
invariant-loop-value l = (map object_line_tree l.lines.items ++ values_lines l.width (map value_tree (drop l.value-index l.values)) ≡ map object_line_tree l.fn.lines.items ++ values_lines l.width (map value_tree l.values))
    × (All (FitsCell l.width) (map value_tree (drop l.value-index l.values)) → All (FitsCell l.width) (map value_tree l.values))
    × ((f : SourceFault) → IsRangeFault l.line l.width (map value_tree (drop l.value-index l.values)) f → IsRangeFault l.line l.width (map value_tree l.values) f)
