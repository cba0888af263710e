-- A source has one first fault.
use Rattle.std.proofs.Common.{◌≡◌, ◌⊎◌, ◌<◌, ◌≤◌, zero, suc, inl, inr, ℕ, List, [], ◌∷◌, ◌++◌, Bool, true, false, Option, None, Some, refl, sym, ap, ap₂, subst, ◌∙◌, arith}
use Rattle.lisa_tree.specs.Descriptions.{DescriptionTree}
use Rattle.lisa_engine.specs.declared.parts.ArrayItem.{ArrayItem}
use Rattle.asm_source.specs.Plain.{PlainLine, PlainToken, PlainValue, Number, PlainPart, Nothing, Section, Global, Equ, Cells, Space, Instruction}
use Rattle.asm_source.specs.Plain as sources
use Rattle.asm_source.specs.declared.flaw.SourceFault.{SourceFault}
use Rattle.asm_source.specs.declared.flaw.SourceFault.TheVariants as faults
use Rattle.instruction_texts.specs.Lines.{Plain}
use Rattle.text_tables.specs.Reading.{IsMatch}
use Rattle.lisa_assembler.specs.lisa_forms.Verdicts.{form_name_at}
use Rattle.lisa_assembler.specs.lisa_syntax.Lines.{all_shapes, IsLineFault}
use Rattle.lisa_assembler.specs.lisa_syntax.declared.reading.LineFault.TheVariants as line_faults
use Rattle.lisa_assembler.specs.Faults.{IsOutside, IsTextFault, none, two, IsPartFault, IsRangeFault, IsCellsFault, IsFaultOf, outside, part, double, range, IsSourceFault, first_double}
use Rattle.lisa_assembler.specs.Sources.{HoldsInstructions, IsInRange, section_behind, line_names}

some_is : {A : Type 0} (x y : A) → Some x ≡ Some y → x ≡ y
some_is x y e = cc e

no_some : {A : Type 0} (o : Option A) (x : A) → o ≡ Some x → o ≡ None → ⊥
no_some o x e f = cc (e, f)

below_or : (i n : ℕ) → (i < n) ⊎ (n ≤ i)
below_or zero zero = inr (omega arith)
below_or zero (suc n) = inl (omega arith)
below_or (suc i) zero = inr (omega arith)
below_or (suc i) (suc n) = elim (below_or i n) [ inl h ↦ inl (omega (arith, h)) | inr h ↦ inr (omega (arith, h)) ]

module _ (d : DescriptionTree) where
  -- the first two forms of a line are told
  pairs_one : (ts : List PlainToken) (j k i l : ℕ) → IsLineFault (all_shapes d) ts (line_faults.TwoInstructions j k) → IsLineFault (all_shapes d) ts (line_faults.TwoInstructions i l) → (j ≡ i) × (k ≡ l)
  pairs_one ts j k i l (jk, first, second, only) (il, first', second', only') =
      let low : j < l → j ≡ i = λ h. only' j first.0 first.1 h in
      let low' : i < k → i ≡ j = λ h. only i first'.0 first'.1 h in
      let high : k < l → k ≡ i = λ h. only' k second.0 second.1 h in
      let high' : l < k → l ≡ j = λ h. only l second'.0 second'.1 h in
      let one : j ≡ i = elim (below_or j l) [ inl h ↦ low h | inr h ↦ sym (low' (omega (arith, jk, il, h))) ] in
      let other : k ≡ l = elim (below_or k l) [
        | inl h ↦ absurd (let e = high h in omega (arith, e, one, jk))
        | inr h ↦ elim (below_or l k) [ inl g ↦ absurd (let e = high' g in omega (arith, e, one, il)) | inr g ↦ omega (arith, h, g) ]
      ] in
      (one, other)

  text_one : (line : ℕ) (ts : List PlainToken) (f g : SourceFault) → IsTextFault d line ts f → IsTextFault d line ts g → f ≡ g
  text_one line ts f g (none found is) (none found' is') = is ∙ sym is'
  text_one line ts f g (none found is) (two j k both is') = absurd (found j both.1.0 both.1.1)
  text_one line ts f g (two j k both is) (none found is') = absurd (found j both.1.0 both.1.1)
  text_one line ts f g (two j k both is) (two i l both' is') =
      let same = pairs_one ts j k i l both both' in
      is ∙ ap₂ (λ (m n : ℕ). faults.TwoInstructions line (form_name_at d m) (form_name_at d n)) same.0 same.1 ∙ sym is'

  part_one : (here : Option ArrayItem) (line : ℕ) (p : PlainPart) (f g : SourceFault) → IsPartFault d here line p f → IsPartFault d here line p g → f ≡ g
  part_one None line (Section n) f g a b = a.1 ∙ sym b.1
  part_one (Some m) line (Section n) f g a b = a.1 ∙ sym b.1
  part_one (Some m) line (Instruction ts) f g (inl a) (inl b) = a.1 ∙ sym b.1
  part_one (Some m) line (Instruction ts) f g (inl a) (inr b) = absurd (a.0 b.0)
  part_one (Some m) line (Instruction ts) f g (inr a) (inl b) = absurd (b.0 a.0)
  part_one (Some m) line (Instruction ts) f g (inr a) (inr b) = text_one line ts f g a.1 b.1
  part_one None line (Instruction ts) f g a b = absurd a
  part_one None line Nothing f g a b = absurd a
  part_one (Some m) line Nothing f g a b = absurd a
  part_one None line (Global n) f g a b = absurd a
  part_one (Some m) line (Global n) f g a b = absurd a
  part_one None line (Equ n v) f g a b = absurd a
  part_one (Some m) line (Equ n v) f g a b = absurd a
  part_one None line (Space n) f g a b = absurd a
  part_one (Some m) line (Space n) f g a b = absurd a
  part_one None line (Cells vs) f g a b = absurd a
  part_one (Some m) line (Cells vs) f g a b = absurd a

  -- no line has both a fault of its part and a number that doesn't fit
  pub part_or_cells : (here : Option ArrayItem) (line : ℕ) (p : PlainPart) (f g : SourceFault) → IsPartFault d here line p f → IsCellsFault here line p g → ⊥
  part_or_cells None line (Section n) f g a b = b
  part_or_cells (Some m) line (Section n) f g a b = b
  part_or_cells None line (Instruction ts) f g a b = a
  part_or_cells (Some m) line (Instruction ts) f g a b = b
  part_or_cells None line Nothing f g a b = a
  part_or_cells (Some m) line Nothing f g a b = a
  part_or_cells None line (Global n) f g a b = a
  part_or_cells (Some m) line (Global n) f g a b = a
  part_or_cells None line (Equ n v) f g a b = a
  part_or_cells (Some m) line (Equ n v) f g a b = a
  part_or_cells None line (Space n) f g a b = a
  part_or_cells (Some m) line (Space n) f g a b = a
  part_or_cells None line (Cells vs) f g a b = a
  part_or_cells (Some m) line (Cells vs) f g a b = a

  range_one : (line width : ℕ) (vs : List PlainValue) (f g : SourceFault) → IsRangeFault line width vs f → IsRangeFault line width vs g → f ≡ g
  range_one line width [] f g a b = absurd a
  range_one line width (sources.Added s ∷ vs) f g a b = range_one line width vs f g a b
  range_one line width (Number n ∷ vs) f g (inl a) (inl b) = a.1 ∙ sym b.1
  range_one line width (Number n ∷ vs) f g (inl a) (inr b) = absurd (a.0 b.0)
  range_one line width (Number n ∷ vs) f g (inr a) (inl b) = absurd (b.0 a.0)
  range_one line width (Number n ∷ vs) f g (inr a) (inr b) = range_one line width vs f g a.1 b.1

  cells_one : (here : Option ArrayItem) (line : ℕ) (p : PlainPart) (f g : SourceFault) → IsCellsFault here line p f → IsCellsFault here line p g → f ≡ g
  cells_one (Some m) line (Cells vs) f g a b = range_one line m.width vs f g a b
  cells_one None line (Cells vs) f g a b = absurd a
  cells_one None line (Section n) f g a b = absurd a
  cells_one (Some m) line (Section n) f g a b = absurd a
  cells_one None line (Instruction ts) f g a b = absurd a
  cells_one (Some m) line (Instruction ts) f g a b = absurd a
  cells_one None line Nothing f g a b = absurd a
  cells_one (Some m) line Nothing f g a b = absurd a
  cells_one None line (Global n) f g a b = absurd a
  cells_one (Some m) line (Global n) f g a b = absurd a
  cells_one None line (Equ n v) f g a b = absurd a
  cells_one (Some m) line (Equ n v) f g a b = absurd a
  cells_one None line (Space n) f g a b = absurd a
  cells_one (Some m) line (Space n) f g a b = absurd a

  line_fault_one : (here : Option ArrayItem) (seen : List (List ℕ)) (l : PlainLine) (f g : SourceFault) → IsFaultOf d here seen l f → IsFaultOf d here seen l g → f ≡ g
  line_fault_one here seen l f g (outside h is) (outside h' is') = is ∙ sym is'
  line_fault_one here seen l f g (outside h is) (part never x) = absurd (never h)
  line_fault_one here seen l f g (outside h is) (double never whole n e is') = absurd (never h)
  line_fault_one here seen l f g (outside h is) (range never single x) = absurd (never h)
  line_fault_one here seen l f g (part never x) (outside h is) = absurd (never h)
  line_fault_one here seen l f g (part never x) (part never' y) = part_one here l.line l.part f g x y
  line_fault_one here seen l f g (part never x) (double never' whole n e is) = absurd (whole f x)
  line_fault_one here seen l f g (part never x) (range never' single y) = absurd (part_or_cells here l.line l.part f g x y)
  line_fault_one here seen l f g (double never whole n e is) (outside h is') = absurd (never h)
  line_fault_one here seen l f g (double never whole n e is) (part never' x) = absurd (whole g x)
  line_fault_one here seen l f g (double never whole n e is) (double never' whole' n' e' is') = is ∙ ap (faults.DuplicateLabel l.line) (some_is n n' (sym e ∙ e')) ∙ sym is'
  line_fault_one here seen l f g (double never whole n e is) (range never' single x) = absurd (no_some (first_double seen (line_names l)) n e single)
  line_fault_one here seen l f g (range never single x) (outside h is) = absurd (never h)
  line_fault_one here seen l f g (range never single x) (part never' y) = absurd (part_or_cells here l.line l.part g f y x)
  line_fault_one here seen l f g (range never single x) (double never' whole n e is) = absurd (no_some (first_double seen (line_names l)) n e single)
  line_fault_one here seen l f g (range never single x) (range never' single' y) = cells_one here l.line l.part f g x y

  pub faults_are_one : (here : Option ArrayItem) (seen : List (List ℕ)) (ls : List PlainLine) (f g : SourceFault) → IsSourceFault d here seen ls f → IsSourceFault d here seen ls g → f ≡ g
  faults_are_one here seen [] f g a b = absurd a
  faults_are_one here seen (l ∷ ls) f g (inl a) (inl b) = line_fault_one here seen l f g a b
  faults_are_one here seen (l ∷ ls) f g (inl a) (inr b) = absurd (b.0 f a)
  faults_are_one here seen (l ∷ ls) f g (inr a) (inl b) = absurd (a.0 g b)
  faults_are_one here seen (l ∷ ls) f g (inr a) (inr b) = faults_are_one (section_behind d here l.part) (line_names l ++ seen) ls f g a.1 b.1
