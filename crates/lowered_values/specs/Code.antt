-- What the code's values stand for.
use Rattle.step_program.specs.Programs.{expr_tree}
use Rattle.step_pieces.specs.Drafts.{leaf_tree}
use Rattle.lowered_values.specs.declared.operands.Source.{Source}
use Rattle.lowered_values.specs.declared.operands.ArraySource.{ArraySource}
use Rattle.lowered_values.specs.declared.operands.Formula.{Formula}
use Rattle.lowered_values.specs.Operands.{Operand, operand_of}
use Rattle.lowered_values.specs.Sources.{Cells}

abbrev pub plain : Source → Operand
plain x = operand_of x.kind x.width (leaf_tree x.at)

abbrev pub made : Formula → Operand
made x = operand_of x.kind x.width (expr_tree x.at)

abbrev pub cells_of : ArraySource → Cells
cells_of c = record { array = c.array; kind = c.kind; width = c.width; places = c.places }
