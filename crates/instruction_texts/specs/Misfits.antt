-- Pieces with which no form begins that matches a line.
use Rattle.std.specs.Prelude.{◌≡◌, ℕ, List, take}
use Rattle.asm_source.specs.Plain.{PlainToken}
use Rattle.instruction_texts.specs.declared.shapes.Shape.{Shape}
use Rattle.instruction_texts.specs.Lines.{Plain, Matches}

-- no form whose first n pieces are those of this one matches the line
abbrev pub NoneBegins : List Shape → ℕ → List PlainToken → Type 0
NoneBegins ss n line = (us : List Shape) (gs : List Plain) → take n us ≡ take n ss → Matches us gs line → ⊥
