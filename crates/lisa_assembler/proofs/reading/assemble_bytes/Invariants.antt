use Rattle.std.proofs.Common.{◌≡◌, ◌+◌, List, length, map, option_copied}
use Rattle.std.specs.Option.{IfSome}
use Rattle.std.specs.Str.Lines.{lines}
use Rattle.lisa_tree.specs.Descriptions.{description_tree}
use Rattle.asm_source.specs.Plain.{PlainLine}
use Rattle.asm_source.specs.Source.{source_from, source_of}
use Rattle.asm_source.specs.Gives.{lines_with}
use Rattle.lisa_object.specs.Objects.{object_line_tree}
use Rattle.lisa_assembler.specs.Places.{HasWords}
use Rattle.lisa_assembler.proofs.ReadOn.{IsSoFar}
use Rattle.lisa_assembler.proofs.reading.assemble_bytes.Given as goal

abbrev pub invariant-each : goal.invariant-each
invariant-each l = IfSome (option_copied l.here) HasWords
    × (l.number + length (lines l.rest) ≡ length (lines l.bytes))
    × ((read : List PlainLine) × (lines_with read (source_from (l.number + 1) (lines l.rest)) ≡ source_of l.bytes)
    × IsSoFar (description_tree l.tools.machine.now) read (option_copied l.here) l.seen (map object_line_tree l.own.items))

abbrev pub decreases-each : goal.decreases-each
decreases-each l = length l.rest
