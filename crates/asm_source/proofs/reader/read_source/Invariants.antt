use Rattle.std.proofs.Common.{◌≡◌, ◌+◌, length, map}
use Rattle.std.specs.Str.Lines.{lines}
use Rattle.asm_source.specs.Plain.{line_tree}
use Rattle.asm_source.specs.Source.{source_from, source_of}
use Rattle.asm_source.specs.Gives.{lines_with}
use Rattle.asm_source.proofs.reader.read_source.Given as goal

abbrev pub invariant-each : goal.invariant-each
invariant-each l = (lines_with (map line_tree l.all.items) (source_from (l.number + 1) (lines l.rest)) ≡ source_of l.bytes) × (l.number + length (lines l.rest) ≡ length (lines l.bytes))

abbrev pub decreases-each : goal.decreases-each
decreases-each l = length l.rest
