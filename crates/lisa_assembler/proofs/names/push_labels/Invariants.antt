use Rattle.std.proofs.Common.{◌≡◌, ◌++◌, map, take}
use Rattle.lisa_object.specs.Objects.{Label, object_line_tree}
use Rattle.lisa_assembler.proofs.names.push_labels.Given as goal

abbrev pub invariant-loop-label : goal.invariant-loop-label
invariant-loop-label l = map object_line_tree l.lines.items ≡ map object_line_tree l.fn.lines.items ++ map Label (take l.label-index l.labels)
