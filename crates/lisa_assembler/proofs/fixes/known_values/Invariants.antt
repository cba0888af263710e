use Rattle.std.proofs.Common.{◌≡◌, map, take}
use Rattle.instruction_texts.specs.Lines.{given}
use Rattle.lisa_assembler.specs.Objects.{known_value}
use Rattle.lisa_assembler.proofs.fixes.known_values.Given as goal

abbrev pub invariant-loop-operand : goal.invariant-loop-operand
invariant-loop-operand l = l.values.items ≡ map known_value (map given (take l.operand-index l.operands))
