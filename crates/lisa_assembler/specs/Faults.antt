-- The first fault of a source: of the first line that has one, and there of the first condition that is broken.
use Rattle.std.specs.Prelude.{◌≡◌, ◌⊎◌, ℕ, Bool, true, false, List, [], ◌∷◌, ◌++◌, Option, None, Some, if◌then◌else◌}
use Rattle.std.specs.List.{list_any}
use Rattle.std.specs.Str.{bytes_eq}
use Rattle.lisa_tree.specs.Descriptions.{DescriptionTree}
use Rattle.lisa_engine.specs.declared.parts.ArrayItem.{ArrayItem}
use Rattle.asm_source.specs.Plain.{PlainToken, PlainValue, Number, PlainPart, Nothing, Section, Global, Equ, Cells, Space, Instruction, PlainLine}
use Rattle.asm_source.specs.Plain as sources
use Rattle.asm_source.specs.declared.flaw.SourceFault.{SourceFault}
use Rattle.asm_source.specs.declared.flaw.SourceFault.TheVariants as faults
use Rattle.lisa_syntax.specs.lisa_forms.Verdicts.{form_name_at}
use Rattle.lisa_syntax.specs.Lines.{all_shapes, IsLineFault}
use Rattle.lisa_syntax.specs.declared.reading.LineFault.TheVariants as line_faults
use Rattle.lisa_assembler.specs.Memories.{memory_named}
use Rattle.lisa_assembler.specs.Sources.{IsInRange, HoldsInstructions, section_behind, line_names}

-- a cell, a space or a label needs a section
abbrev pub needs_section : PlainPart → Bool
needs_section Nothing = false
needs_section (Section name) = false
needs_section (Global name) = false
needs_section (Equ name n) = false
needs_section (Space n) = true
needs_section (Cells values) = true
needs_section (Instruction line) = true

abbrev pub has_label : List (List ℕ) → Bool
has_label [] = false
has_label (n ∷ ns) = true

-- 4: the line stands before any section
abbrev pub IsOutside : Option ArrayItem → PlainLine → Type 0
IsOutside here l = (here ≡ None) × ((needs_section l.part ≡ true) ⊎ (has_label l.labels ≡ true))

-- 7 and 8: the text is of no form, or of two or more, the first two of which are named
pub data IsTextFault (d : DescriptionTree) (line : ℕ) (ts : List PlainToken) (f : SourceFault) : Type 0 where
  none : IsLineFault (all_shapes d) ts line_faults.NoInstruction → f ≡ faults.NoInstruction line → IsTextFault d line ts f
  two : (j k : ℕ) → IsLineFault (all_shapes d) ts (line_faults.TwoInstructions j k) → f ≡ faults.TwoInstructions line (form_name_at d j) (form_name_at d k) → IsTextFault d line ts f

-- 5 to 8: what stands behind the labels is at fault in this section
abbrev pub IsPartFault : DescriptionTree → Option ArrayItem → ℕ → PlainPart → SourceFault → Type 0
IsPartFault d here line (Section name) f = (memory_named d name ≡ None) × (f ≡ faults.UnknownMemory line name)
IsPartFault d (Some m) line (Instruction ts) f =
    ((HoldsInstructions d m → ⊥) × (f ≡ faults.NotProgram line))
    ⊎ (HoldsInstructions d m × IsTextFault d line ts f)
IsPartFault d None line (Instruction ts) f = ⊥
IsPartFault d here line Nothing f = ⊥
IsPartFault d here line (Global name) f = ⊥
IsPartFault d here line (Equ name n) f = ⊥
IsPartFault d here line (Space n) f = ⊥
IsPartFault d here line (Cells values) f = ⊥

-- 9: the first name that was seen before, in the source or in the line
abbrev pub first_double : List (List ℕ) → List (List ℕ) → Option (List ℕ)
first_double seen [] = None
first_double seen (n ∷ ns) = if list_any (bytes_eq n) seen then Some n else first_double (n ∷ seen) ns

-- 10: the first number of a `.word` that no cell of this width takes
abbrev pub IsRangeFault : ℕ → ℕ → List PlainValue → SourceFault → Type 0
IsRangeFault line width [] f = ⊥
IsRangeFault line width (sources.Added s ∷ vs) f = IsRangeFault line width vs f
IsRangeFault line width (Number n ∷ vs) f =
    ((IsInRange width n → ⊥) × (f ≡ faults.FieldRange line n width)) ⊎ (IsInRange width n × IsRangeFault line width vs f)

abbrev pub IsCellsFault : Option ArrayItem → ℕ → PlainPart → SourceFault → Type 0
IsCellsFault (Some m) line (Cells values) f = IsRangeFault line m.width values f
IsCellsFault None line (Cells values) f = ⊥
IsCellsFault here line Nothing f = ⊥
IsCellsFault here line (Section name) f = ⊥
IsCellsFault here line (Global name) f = ⊥
IsCellsFault here line (Equ name n) f = ⊥
IsCellsFault here line (Space n) f = ⊥
IsCellsFault here line (Instruction ts) f = ⊥

-- the faults of a line, each behind those of lower numbers; these names were seen before it
pub data IsFaultOf (d : DescriptionTree) (here : Option ArrayItem) (seen : List (List ℕ)) (l : PlainLine) (f : SourceFault) : Type 0 where
  outside : IsOutside here l → f ≡ faults.NoSection l.line → IsFaultOf d here seen l f
  part : (IsOutside here l → ⊥) → IsPartFault d here l.line l.part f → IsFaultOf d here seen l f
  double : (IsOutside here l → ⊥) → ((g : SourceFault) → IsPartFault d here l.line l.part g → ⊥) → (n : List ℕ) → first_double seen (line_names l) ≡ Some n
      → f ≡ faults.DuplicateLabel l.line n → IsFaultOf d here seen l f
  range : (IsOutside here l → ⊥) → first_double seen (line_names l) ≡ None → IsCellsFault here l.line l.part f → IsFaultOf d here seen l f

-- the first line that has a fault has this one
abbrev pub IsSourceFault : DescriptionTree → Option ArrayItem → List (List ℕ) → List PlainLine → SourceFault → Type 0
IsSourceFault d here seen [] f = ⊥
IsSourceFault d here seen (l ∷ ls) f =
    IsFaultOf d here seen l f
    ⊎ (((g : SourceFault) → IsFaultOf d here seen l g → ⊥) × IsSourceFault d (section_behind d here l.part) (line_names l ++ seen) ls f)
