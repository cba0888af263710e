-- The lines of the faults of a source, an object and of linking.
use Rattle.std.specs.Prelude.{[], ◌∷◌, codes}
use Rattle.asm_source.specs.declared.flaw.SourceFault.{SourceFault}
use Rattle.asm_source.specs.declared.flaw.SourceFault.TheVariants as sources
use Rattle.lisa_object.specs.declared.faults.ObjectFault.{ObjectFault}
use Rattle.lisa_object.specs.declared.faults.ObjectFault.TheVariants as objects
use Rattle.lisa_object.specs.declared.faults.LinkFault.{LinkFault}
use Rattle.lisa_object.specs.declared.faults.LinkFault.TheVariants as links
use Rattle.refusal_lines.specs.Lines.{Line, line, name, number, integer, digest}

-- want of memory is no refusal, and has no line of its own
abbrev pub source_line : SourceFault → Line
source_line (sources.BadLine at) = line (codes "source 1 BadLine") (number (codes "line") at ∷ [])
source_line (sources.UnknownDirective at) = line (codes "source 2 UnknownDirective") (number (codes "line") at ∷ [])
source_line (sources.BadExpression at) = line (codes "source 3 BadExpression") (number (codes "line") at ∷ [])
source_line (sources.NoSection at) = line (codes "source 4 NoSection") (number (codes "line") at ∷ [])
source_line (sources.UnknownMemory at n) = line (codes "source 5 UnknownMemory") (number (codes "line") at ∷ name (codes "name") n ∷ [])
source_line (sources.NotProgram at) = line (codes "source 6 NotProgram") (number (codes "line") at ∷ [])
source_line (sources.NoInstruction at) = line (codes "source 7 NoInstruction") (number (codes "line") at ∷ [])
source_line (sources.TwoInstructions at first second) = line (codes "source 8 TwoInstructions") (number (codes "line") at ∷ name (codes "first") first ∷ name (codes "second") second ∷ [])
source_line (sources.DuplicateLabel at n) = line (codes "source 9 DuplicateLabel") (number (codes "line") at ∷ name (codes "name") n ∷ [])
source_line (sources.FieldRange at value width) = line (codes "source 10 FieldRange") (number (codes "line") at ∷ integer (codes "value") value ∷ number (codes "width") width ∷ [])
source_line sources.NoMemory = line [] []

abbrev pub object_line : ObjectFault → Line
object_line (objects.NotAnObject object at) = line (codes "object 1 NotAnObject") (number (codes "object") object ∷ number (codes "line") at ∷ [])
object_line (objects.OtherDescription object kept expected) =
    line (codes "object 2 OtherDescription") (number (codes "object") object ∷ digest (codes "kept") kept ∷ digest (codes "expected") expected ∷ [])
object_line objects.NoMemory = line [] []

abbrev pub link_line : LinkFault → Line
link_line (links.NoSuchMemory n) = line (codes "link 1 NoSuchMemory") (name (codes "name") n ∷ [])
link_line (links.DuplicateGlobal n) = line (codes "link 2 DuplicateGlobal") (name (codes "name") n ∷ [])
link_line (links.DoesNotFit memory cells depth) = line (codes "link 3 DoesNotFit") (name (codes "memory") memory ∷ number (codes "cells") cells ∷ number (codes "depth") depth ∷ [])
link_line (links.Undefined object n) = line (codes "link 4 Undefined") (number (codes "object") object ∷ name (codes "name") n ∷ [])
link_line (links.FieldRange object memory address value width) =
    line (codes "link 5 FieldRange")
    (number (codes "object") object ∷ name (codes "memory") memory ∷ number (codes "address") address ∷ integer (codes "value") value ∷ number (codes "width") width ∷ [])
link_line links.NoMemory = line [] []
