-- What a source says: its entries, where a cell holds what its line gives for it.
use Rattle.std.specs.Prelude.{◌≡◌, ◌≢◌, ℕ, ◌-◌, ◌^◌, ℤ, pos, ◌-ℤ◌, ◌≤ℤ◌, List, [], ◌∷◌, ◌++◌, map, flat_map, All, AllPairs, Option, None, Some}
use Rattle.std.specs.Option.{IsSome}
use Rattle.lisa_tree.specs.Descriptions.{DescriptionTree}
use Rattle.lisa_engine.specs.declared.parts.ArrayItem.{ArrayItem}
use Rattle.asm_source.specs.Plain.{PlainToken, PlainValue, Number, PlainPart, Nothing, Section, Global, Equ, Cells, Space, Instruction, PlainLine}
use Rattle.asm_source.specs.Plain as sources
use Rattle.instruction_forms.specs.Widths.{HasWidth}
use Rattle.instruction_texts.specs.declared.shapes.Shape.{Shape}
use Rattle.instruction_texts.specs.Lines.{Plain}
use Rattle.text_tables.specs.Reading.{IsMatch}
use Rattle.lisa_syntax.specs.Orders.{order_at, IsInOrder}
use Rattle.lisa_syntax.specs.Lines.{all_shapes, all_orders}
use Rattle.placed_programs.specs.Entries.{Entry, Enter, Room, Put, Mark, Equal, Share}
use Rattle.lisa_assembler.specs.Memories.{memory_named}

-- what a cell of a source holds
pub data SourceCell : Type 0 where
  -- a value of a `.word`, in a memory that is so wide
  Word : ℕ → PlainValue → SourceCell
  -- an instruction of the form of this number, with what stands for each field, in preorder
  Coded : ℕ → List Plain → SourceCell

-- the numbers that a cell of this width takes: those of its bits with a sign and those without
pub record IsInRange (width : ℕ) (n : ℤ) : Type 0 where
  pub low : (pos 0 -ℤ pos (2 ^ (width - 1))) ≤ℤ n
  pub high : n ≤ℤ (pos (2 ^ width - 1))

-- a sum is tested once its value is known
abbrev pub FitsCell : ℕ → PlainValue → Type 0
FitsCell width (Number n) = IsInRange width n
FitsCell width (sources.Added s) = Unit {0}

-- the line is of this form alone; this stands for each field
pub record IsRead (all : List (List Shape)) (orders : List (List ℕ)) (line : List PlainToken) (form : ℕ) (gs : List Plain) : Type 0 where
  pub shown : List Plain
  pub is_match : IsMatch all line form shown
  pub only : (j : ℕ) (hs : List Plain) → IsMatch all line j hs → j ≡ form
  pub in_order : IsInOrder (order_at orders form) gs shown

-- the section is of a memory that is as wide as an instruction
abbrev pub HoldsInstructions : DescriptionTree → ArrayItem → Type 0
HoldsInstructions d m = HasWidth d (Some m.width)

pub record IsInstructionEntry (d : DescriptionTree) (m : ArrayItem) (line : List PlainToken) (es : List (Entry SourceCell)) : Type 0 where
  pub form : ℕ
  pub given : List Plain
  pub holds : HoldsInstructions d m
  pub read : IsRead (all_shapes d) (all_orders d) line form given
  pub is : es ≡ Put (Coded form given) ∷ []

-- the entries of what stands behind a line's labels, in the section of this memory
abbrev pub ArePartEntries : DescriptionTree → Option ArrayItem → PlainPart → List (Entry SourceCell) → Type 0
ArePartEntries d here Nothing es = es ≡ []
ArePartEntries d here (Section name) es = (m : ArrayItem) × (memory_named d name ≡ Some m) × (es ≡ Enter name m.width ∷ [])
ArePartEntries d here (Global name) es = es ≡ Share name ∷ []
ArePartEntries d here (Equ name n) es = es ≡ Equal name n ∷ []
ArePartEntries d here (Space n) es = IsSome here × (es ≡ Room n ∷ [])
ArePartEntries d None (Cells values) es = ⊥
ArePartEntries d (Some m) (Cells values) es = All (FitsCell m.width) values × (es ≡ map (λ v. Put (Word m.width v)) values)
ArePartEntries d None (Instruction line) es = ⊥
ArePartEntries d (Some m) (Instruction line) es = IsInstructionEntry d m line es

-- the section behind a line
abbrev pub section_behind : DescriptionTree → Option ArrayItem → PlainPart → Option ArrayItem
section_behind d here Nothing = here
section_behind d here (Section name) = memory_named d name
section_behind d here (Global name) = here
section_behind d here (Equ name n) = here
section_behind d here (Space n) = here
section_behind d here (Cells values) = here
section_behind d here (Instruction line) = here

-- a label stands in the section before the line's directive
pub record AreLineEntries (d : DescriptionTree) (here : Option ArrayItem) (l : PlainLine) (es : List (Entry SourceCell)) : Type 0 where
  pub own : List (Entry SourceCell)
  pub placed : l.labels ≢ [] → IsSome here
  pub part : ArePartEntries d here l.part own
  pub is : es ≡ map Mark l.labels ++ own

abbrev pub AreEntries : DescriptionTree → Option ArrayItem → List PlainLine → List (Entry SourceCell) → Type 0
AreEntries d here [] es = es ≡ []
AreEntries d here (l ∷ ls) es =
    (own rest : List (Entry SourceCell)) × AreLineEntries d here l own × AreEntries d (section_behind d here l.part) ls rest × (es ≡ own ++ rest)

-- the names that a line defines: its labels, and then that of its `.equ`
abbrev pub part_names : PlainPart → List (List ℕ)
part_names Nothing = []
part_names (Section name) = []
part_names (Global name) = []
part_names (Equ name n) = name ∷ []
part_names (Space n) = []
part_names (Cells values) = []
part_names (Instruction line) = []

abbrev pub line_names : PlainLine → List (List ℕ)
line_names l = l.labels ++ part_names l.part

-- these are the entries of a source without a fault
pub record IsSourceOf (d : DescriptionTree) (ls : List PlainLine) (es : List (Entry SourceCell)) : Type 0 where
  pub entries : AreEntries d None ls es
  pub distinct : AllPairs (λ a b. a ≢ b) (flat_map line_names ls)
