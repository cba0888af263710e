-- Objects as plain trees: the same variants and numbers, with each vector as the list of its elements.
use Rattle.std.specs.Prelude.{ℕ, ℤ, List, map}
use Rattle.asm_source.specs.Plain.{PlainSum, sum_tree}
use Rattle.lisa_object.specs.declared.parts.FixKind.{FixKind}
use Rattle.lisa_object.specs.declared.parts.ObjectLine.{ObjectLine}
use Rattle.lisa_object.specs.declared.parts.ObjectLine.TheVariants as lines
use Rattle.lisa_object.specs.declared.parts.Object.{Object}

pub data PlainObjectLine : Type 0 where
  Section : List ℕ → ℕ → PlainObjectLine
  Space : ℕ → PlainObjectLine
  Label : List ℕ → PlainObjectLine
  Equ : List ℕ → ℤ → PlainObjectLine
  Global : List ℕ → PlainObjectLine
  Cell : ℕ → PlainObjectLine
  Fix : ℕ → ℕ → FixKind → PlainSum → PlainObjectLine

pub record PlainObject : Type 0 where
  pub digest : List ℕ
  pub lines : List PlainObjectLine

abbrev pub object_line_tree : ObjectLine → PlainObjectLine
object_line_tree (lines.Section n w) = Section n w
object_line_tree (lines.Space n) = Space n
object_line_tree (lines.Label n) = Label n
object_line_tree (lines.Equ n v) = Equ n v
object_line_tree (lines.Global n) = Global n
object_line_tree (lines.Cell v) = Cell v
object_line_tree (lines.Fix l w k s) = Fix l w k (sum_tree s)

abbrev pub object_tree : Object → PlainObject
object_tree o = record { digest = o.digest; lines = map object_line_tree o.lines.items }
