-- What operations write, but for the fields and the children of their forms.
use Rattle.std.specs.Prelude.{ℕ, ◌≡◌, List, [], ◌++◌, map, slice_index_or}
use Rattle.std.specs.Global.{Vec}
use Rattle.std.specs.List.{flat_map}
use Rattle.lisa_tree.specs.declared.descriptions.CodingItem.{CodingItem}
use Rattle.lisa_tree.specs.declared.descriptions.SyntaxItem.{SyntaxItem}
use Rattle.lisa_tree.specs.Descriptions.{DescriptionTree}
use Rattle.instruction_texts.specs.Symbols.{Sym, text_sym, shown_at, others, assemble}
use Rattle.form_texts.specs.Syntaxes.{kind_of, element, elements_at}
use Rattle.form_texts.specs.Strings.{symbols_of, AreOpened}
use Rattle.form_texts.specs.declared.segments.Growing.{Growing}
use Rattle.form_texts.specs.declared.segments.Segment.{Segment}
use Rattle.form_texts.specs.declared.segments.Segment.TheVariants as segments
use Rattle.form_texts.specs.declared.segments.Slot.{Slot}
use Rattle.form_texts.specs.declared.segments.Slot.TheVariants as slots
use Rattle.form_texts.specs.declared.segments.Templates.{Templates}
use Rattle.form_texts.specs.declared.strings.Strings.{Strings}

-- what is written where a form has these fields, with their numbers, and its children write these parts
abbrev pub Writing : Type 0
Writing = List (ℕ × ℕ) → List (List (Sym ℕ)) → List (Sym ℕ)

abbrev pub slot_symbols : Slot → Writing
slot_symbols (slots.Number k format) fields parts = shown_at (kind_of format) k fields
slot_symbols (slots.Child k) fields parts = slice_index_or parts k []

abbrev pub segment_symbols : List Strings → List (ℕ × ℕ) → List (List (Sym ℕ)) → Segment → List (Sym ℕ)
segment_symbols all fields parts (segments.Same symbol) = symbols_of all symbol
segment_symbols all fields parts (segments.Open slot) = slot_symbols slot fields parts

-- what segments write, with these strings
abbrev pub written_in : List Strings → List Segment → Writing
written_in all here fields parts = flat_map (segment_symbols all fields parts) here

-- The segments write so, with these strings and any behind them.
abbrev pub IsWritten : List Strings → List Segment → Writing → Type 0
IsWritten all here writing = (more : List Strings) (fields : List (ℕ × ℕ)) (parts : List (List (Sym ℕ))) → written_in (all ++ more) here fields parts ≡ writing fields parts

-- The segments, the text behind them, and then the rest write the whole.
abbrev pub Continues : List Strings → List Segment → List ℕ → Writing → Writing → Type 0
Continues all here text rest whole =
    (more : List Strings) (fields : List (ℕ × ℕ)) (parts : List (List (Sym ℕ))) → written_in (all ++ more) here fields parts ++ (map text_sym text ++ rest fields parts) ≡ whole fields parts

abbrev pub GoesOn : List Strings → Growing → Writing → Writing → Type 0
GoesOn all growing = Continues all growing.segments.items growing.text.items

-- what a syntax writes, by the items of the coding beside it, and what its elements do behind another one
abbrev pub shown_by : List CodingItem → List SyntaxItem → Writing
shown_by items shown fields parts = assemble fields parts (map (element items) shown)

abbrev pub shown_behind : List CodingItem → List SyntaxItem → Writing
shown_behind items shown fields parts = others fields parts (map (element items) shown)

-- what an operation writes
abbrev pub operation_writing : DescriptionTree → ℕ → Writing
operation_writing d o fields parts = assemble fields parts (elements_at d o)

-- some strings have been added
abbrev pub IsLonger : List Strings → List Strings → Type 0
IsLonger all longer = (more : List Strings) × (longer ≡ all ++ more)

-- the segments of an operation
abbrev pub segments_at : List (Vec Segment) → ℕ → List Segment
segments_at all o = slice_index_or (map (λ v. v.items) all) o []

-- each operation writes what its segments do
pub record AreTemplates (d : DescriptionTree) (t : Templates) : Type 0 where
  pub opened : AreOpened t.table
  pub written : (o : ℕ) (fields : List (ℕ × ℕ)) (parts : List (List (Sym ℕ))) → written_in t.table.strings.items (segments_at t.segments.items o) fields parts ≡ operation_writing d o fields parts
