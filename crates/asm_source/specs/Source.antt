-- What the bytes of a source say, line by line.
use Rattle.std.specs.Prelude.{ℕ, ◌+◌, List, [], ◌∷◌, Result, Ok, Err}
use Rattle.std.specs.Str.Lines.{lines}
use Rattle.asm_source.specs.declared.flaw.Flaw.{Flaw}
use Rattle.asm_source.specs.declared.flaw.Flaw.TheVariants as flaws
use Rattle.asm_source.specs.declared.flaw.SourceFault.{SourceFault}
use Rattle.asm_source.specs.declared.flaw.SourceFault.TheVariants as faults
use Rattle.asm_source.specs.Plain.{PlainPart, PlainLine}
use Rattle.asm_source.specs.Sums.{◌>>=◌}
use Rattle.asm_source.specs.Parts.{line_of}

-- the fault of a line with a flaw
abbrev pub fault_at : ℕ → Flaw → SourceFault
fault_at line flaws.BadLine = faults.BadLine line
fault_at line flaws.UnknownDirective = faults.UnknownDirective line
fault_at line flaws.BadExpression = faults.BadExpression line
fault_at line flaws.NoMemory = faults.NoMemory

abbrev pub numbered : ℕ → Result (List (List ℕ) × PlainPart) Flaw → Result PlainLine SourceFault
numbered line (Ok x) = Ok (record { line = line; labels = x.0; part = x.1 })
numbered line (Err flaw) = Err (fault_at line flaw)

-- the lines from a number on, or the first fault
unfoldable pub source_from : ℕ → List (List ℕ) → Result (List PlainLine) SourceFault
source_from line [] = Ok []
source_from line (text ∷ texts) = numbered line (line_of text) >>= λ first. source_from (line + 1) texts >>= λ more. Ok (first ∷ more)

-- Lines end at line feeds. A carriage return before a line feed is dropped, and the last line may lack its line feed.
unfoldable pub source_of : List ℕ → Result (List PlainLine) SourceFault
source_of bytes = source_from 1 (lines bytes)
