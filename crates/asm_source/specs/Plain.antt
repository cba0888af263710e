-- The plain trees that lines stand for: the same variants and numbers, with each vector as the list of its elements.
use Rattle.std.specs.Prelude.{ℕ, ℤ, List, map}
use Rattle.asm_source.specs.declared.parts.Term.{Term}
use Rattle.asm_source.specs.declared.parts.Sum.{Sum}
use Rattle.asm_source.specs.declared.parts.LineToken.{LineToken}
use Rattle.asm_source.specs.declared.parts.LineToken.TheVariants as tokens
use Rattle.asm_source.specs.declared.parts.CellValue.{CellValue}
use Rattle.asm_source.specs.declared.parts.CellValue.TheVariants as values
use Rattle.asm_source.specs.declared.parts.Part.{Part}
use Rattle.asm_source.specs.declared.parts.Part.TheVariants as parts
use Rattle.asm_source.specs.declared.parts.SourceLine.{SourceLine}

pub record PlainSum : Type 0 where
  pub constant : ℤ
  pub terms : List Term

pub data PlainToken : Type 0 where
  Run : List ℕ → PlainToken
  Sign : ℕ → PlainToken
  Operand : List ℕ → PlainSum → PlainToken

pub data PlainValue : Type 0 where
  Number : ℤ → PlainValue
  Added : PlainSum → PlainValue

pub data PlainPart : Type 0 where
  Nothing : PlainPart
  Section : List ℕ → PlainPart
  Global : List ℕ → PlainPart
  Equ : List ℕ → ℤ → PlainPart
  Cells : List PlainValue → PlainPart
  Space : ℕ → PlainPart
  Instruction : List PlainToken → PlainPart

pub record PlainLine : Type 0 where
  pub line : ℕ
  pub labels : List (List ℕ)
  pub part : PlainPart

abbrev pub sum_tree : Sum → PlainSum
sum_tree s = record { constant = s.constant; terms = s.terms.items }

abbrev pub token_tree : LineToken → PlainToken
token_tree (tokens.Run w) = Run w
token_tree (tokens.Sign b) = Sign b
token_tree (tokens.Operand w s) = Operand w (sum_tree s)

abbrev pub value_tree : CellValue → PlainValue
value_tree (values.Number n) = Number n
value_tree (values.Sum s) = Added (sum_tree s)

abbrev pub part_tree : Part → PlainPart
part_tree parts.Nothing = Nothing
part_tree (parts.Section n) = Section n
part_tree (parts.Global n) = Global n
part_tree (parts.Equ n v) = Equ n v
part_tree (parts.Cells v) = Cells (map value_tree v.items)
part_tree (parts.Space n) = Space n
part_tree (parts.Instruction v) = Instruction (map token_tree v.items)

abbrev pub line_tree : SourceLine → PlainLine
line_tree l = record { line = l.line; labels = l.labels.items; part = part_tree l.part }
