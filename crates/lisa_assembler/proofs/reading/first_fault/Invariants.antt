use Rattle.std.proofs.Common.{◌≡◌, ◌+◌, List, length}
use Rattle.std.specs.Str.Lines.{lines}
use Rattle.asm_source.specs.Plain.{PlainLine}
use Rattle.asm_source.specs.Source.{source_from, source_of}
use Rattle.asm_source.specs.Gives.{lines_with}
use Rattle.lisa_assembler.proofs.reading.first_fault.Given as goal

abbrev pub invariant-each : goal.invariant-each
invariant-each l = (l.fault ≡ l.fn.fault)
    × (l.number + length (lines l.rest) ≡ length (lines l.bytes))
    × ((read : List PlainLine) × (lines_with read (source_from (l.number + 1) (lines l.rest)) ≡ source_of l.bytes))

abbrev pub decreases-each : goal.decreases-each
decreases-each l = length l.rest
