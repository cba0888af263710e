use Rattle.std.proofs.Common.{◌≡◌, map}
use Rattle.std.specs.Prelude.{◌==◌}
use Rattle.std.specs.List.{slice_split}
use Rattle.std.specs.Option.{option_copied}
use Rattle.asm_source.specs.Plain.{value_tree}
use Rattle.asm_source.specs.Parts.{values_of}
use Rattle.text_lines.specs.Cuts.{parts_behind}
use Rattle.asm_source.specs.Gives.{values_with}
use Rattle.asm_source.proofs.Values.{left_size}
use Rattle.asm_source.proofs.directives.cells.Given as goal

abbrev pub invariant-each : goal.invariant-each
invariant-each l = values_with l.sound (map value_tree l.all.items) (values_of (parts_behind 44 (option_copied l.left))) ≡ values_of (slice_split (λ b. b == 44) l.text)

abbrev pub decreases-each : goal.decreases-each
decreases-each l = left_size (option_copied l.left)
