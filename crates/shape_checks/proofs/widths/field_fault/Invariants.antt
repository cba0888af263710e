use Rattle.std.proofs.Common.{◌≡◌, drop}
use Rattle.shape_checks.specs.Shapes.{field_fault}
use Rattle.shape_checks.proofs.widths.field_fault.Given as goal

abbrev pub invariant-loop-shape : goal.invariant-loop-shape
invariant-loop-shape l = field_fault l.fields ≡ field_fault (drop l.shape-index l.fields)
