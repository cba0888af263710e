use Rattle.std.proofs.Common.{◌≡◌, ◌++◌, map, take}
use Rattle.lisa_assembler.specs.Fields.{field_bits}
use Rattle.lisa_assembler.proofs.fields.add_fields.Given as goal

abbrev pub invariant-loop-field : goal.invariant-loop-field
invariant-loop-field l = l.all.items ≡ l.initial.all.items ++ map field_bits (take l.field-index l.fields)
