-- One line of a source more.
use Rattle.std.specs.Prelude.{◌≡◌, ◌++◌, ℕ, List, [], ◌∷◌, Option, None, map}
use Rattle.lisa_tree.specs.Descriptions.{DescriptionTree}
use Rattle.lisa_engine.specs.declared.parts.ArrayItem.{ArrayItem}
use Rattle.asm_source.specs.Plain.{PlainLine, PlainPart, Nothing, Section, Global, Equ, Cells, Space, Instruction}
use Rattle.asm_source.specs.declared.flaw.SourceFault.{SourceFault}
use Rattle.lisa_object.specs.Objects.{PlainObjectLine}
use Rattle.lisa_object.specs.Objects as objects
use Rattle.placed_programs.specs.Entries.{Entry, mapped, lines_of}
use Rattle.lisa_assembler.specs.Sources.{SourceCell, AreLineEntries, line_names}
use Rattle.lisa_assembler.specs.Objects.{object_cell}
use Rattle.lisa_assembler.specs.Faults.{IsFaultOf, first_double}

-- in this section, behind these names and these lines of the object, a line without a fault gives the lines that are there now
pub record IsStep (d : DescriptionTree) (here : Option ArrayItem) (names : List (List ℕ)) (l : PlainLine) (old new : List PlainObjectLine) : Type 0 where
  pub none : (f : SourceFault) → IsFaultOf d here names l f → ⊥
  pub single : first_double names (line_names l) ≡ None
  pub entries : List (Entry SourceCell)
  pub are : AreLineEntries d here l entries
  pub written : new ≡ old ++ lines_of (map (mapped (object_cell d)) entries)

-- the parts that an object has as they stand in a source
abbrev pub IsPlainPart : PlainPart → Type 0
IsPlainPart Nothing = Unit {0}
IsPlainPart (Section name) = ⊥
IsPlainPart (Global name) = Unit {0}
IsPlainPart (Equ name n) = Unit {0}
IsPlainPart (Space n) = Unit {0}
IsPlainPart (Cells values) = ⊥
IsPlainPart (Instruction line) = ⊥

-- the line of such a part
abbrev pub plain_lines : PlainPart → List PlainObjectLine
plain_lines Nothing = []
plain_lines (Section name) = []
plain_lines (Global name) = objects.Global name ∷ []
plain_lines (Equ name n) = objects.Equ name n ∷ []
plain_lines (Space n) = objects.Space n ∷ []
plain_lines (Cells values) = []
plain_lines (Instruction line) = []
