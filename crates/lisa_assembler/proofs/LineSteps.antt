-- What lines of each kind give.
use Rattle.std.proofs.Common.{◌≡◌, ◌⊎◌, ◌<◌, inl, inr, ℕ, List, [], ◌∷◌, ◌++◌, map, Option, None, Some, refl, sym, ap, subst, ◌∙◌, rules, arith}
use Rattle.std.specs.Prelude.{All}
use Rattle.std.specs.Option.{option_map, IsSome}
use Rattle.std.proofs.lemmas.List.{append-nil, length-map}
use Rattle.std.proofs.lemmas.Option.{slice_get-map}
use Rattle.std.proofs.lemmas.List.Elements.{All-head, All-tail}
use Rattle.lisa_tree.specs.Descriptions.{DescriptionTree}
use Rattle.lisa_engine.specs.declared.parts.ArrayItem.{ArrayItem}
use Rattle.asm_source.specs.Plain.{PlainLine, PlainToken, PlainValue, Number, PlainPart, Nothing, Section, Global, Equ, Cells, Space, Instruction}
use Rattle.asm_source.specs.Plain as sources
use Rattle.asm_source.specs.declared.flaw.SourceFault.{SourceFault}
use Rattle.asm_source.specs.declared.flaw.SourceFault.TheVariants as faults
use Rattle.instruction_texts.specs.declared.operands.Operand.{Operand}
use Rattle.instruction_texts.specs.Lines.{given}
use Rattle.lisa_object.specs.Objects.{PlainObjectLine, Label}
use Rattle.lisa_object.specs.Objects as objects
use Rattle.lisa_syntax.specs.declared.reading.Matched.{Matched}
use Rattle.lisa_syntax.specs.Lines.{all_shapes, all_orders, IsReading}
use Rattle.lisa_syntax.specs.Orders.{order_at, IsInOrder}
use Rattle.placed_programs.specs.Entries.{Entry, Enter, Room, Put, Equal, Share, entry_lines}
use Rattle.lisa_assembler.specs.Cells.{values_lines}
use Rattle.lisa_assembler.specs.Faults.{IsOutside, IsPartFault, IsCellsFault, IsTextFault, none, two, IsFaultOf, part, double, range, IsRangeFault, first_double, needs_section}
use Rattle.lisa_assembler.specs.Memories.{memory_named}
use Rattle.lisa_assembler.specs.Objects.{object_cell}
use Rattle.lisa_assembler.specs.Sources.{SourceCell, Word, Coded, FitsCell, HoldsInstructions, IsRead, IsInstructionEntry, ArePartEntries, line_names, section_behind}
use Rattle.lisa_assembler.specs.Steps.{IsStep, IsPlainPart, plain_lines}
use Rattle.lisa_assembler.proofs.Doubles.{IsDouble}
use Rattle.lisa_assembler.proofs.Stepping.{step}
use Rattle.lisa_assembler.proofs.Written.{written, values_written}

module _ (d : DescriptionTree) (here : Option ArrayItem) (names : List (List ℕ)) (l : PlainLine) (inside : IsOutside here l → ⊥) where
  -- where the part has no fault, a double name is the line's
  pub begun_fault : ((g : SourceFault) → IsPartFault d here l.line l.part g → ⊥) → (f : SourceFault) → IsDouble l.line (first_double names (line_names l)) f
      → (f ≡ faults.NoMemory) ⊎ IsFaultOf d here names l f
  begun_fault whole f (inl e) = inl e
  begun_fault whole f (inr t) = inr (double inside whole t.0 t.1 t.2)

-- ---- sections

section_sound : (d : DescriptionTree) (here : Option ArrayItem) (line : ℕ) (name : List ℕ) (m : ArrayItem) → memory_named d name ≡ Some m → (g : SourceFault) → IsPartFault d here line (Section name) g → ⊥
section_sound d None line name m is g x = let e : memory_named d name ≡ None = x.0 in cc (is, e)
section_sound d (Some k) line name m is g x = let e : memory_named d name ≡ None = x.0 in cc (is, e)

section_fits : (here : Option ArrayItem) (line : ℕ) (name : List ℕ) (g : SourceFault) → IsCellsFault here line (Section name) g → ⊥
section_fits None line name g x = x
section_fits (Some k) line name g x = x

pub unknown_section : (d : DescriptionTree) (here : Option ArrayItem) (line : ℕ) (name : List ℕ) → memory_named d name ≡ None → IsPartFault d here line (Section name) (faults.UnknownMemory line name)
unknown_section d None line name is = (is, refl)
unknown_section d (Some k) line name is = (is, refl)

section_entries : (d : DescriptionTree) (here : Option ArrayItem) (name : List ℕ) (m : ArrayItem) → memory_named d name ≡ Some m → ArePartEntries d here (Section name) (Enter name m.width ∷ [])
section_entries d None name m is = (m, is, refl)
section_entries d (Some k) name m is = (m, is, refl)

module _ (d : DescriptionTree) (here : Option ArrayItem) (names : List (List ℕ)) (l : PlainLine) (name : List ℕ) (e : l.part ≡ Section name) (inside : IsOutside here l → ⊥) where
  pub section_missing : memory_named d name ≡ None → IsFaultOf d here names l (faults.UnknownMemory l.line name)
  section_missing is =
      let f : SourceFault = faults.UnknownMemory l.line name in
      part inside (subst (λ (p : PlainPart). IsPartFault d here l.line p f) (sym e) (unknown_section d here l.line name is))

  module _ (m : ArrayItem) (is : memory_named d name ≡ Some m) where
    sound : (g : SourceFault) → IsPartFault d here l.line l.part g → ⊥
    sound g x = section_sound d here l.line name m is g (subst (λ (p : PlainPart). IsPartFault d here l.line p g) e x)

    fits : (g : SourceFault) → IsCellsFault here l.line l.part g → ⊥
    fits g x = section_fits here l.line name g (subst (λ (p : PlainPart). IsCellsFault here l.line p g) e x)

    pub section_step : first_double names (line_names l) ≡ None → (old mid new : List PlainObjectLine)
        → mid ≡ old ++ map Label l.labels → new ≡ mid ++ objects.Section name m.width ∷ [] → IsStep d here names l old new
    section_step single old mid new a b =
        let own : List (Entry SourceCell) = Enter name m.width ∷ [] in
        step d here names l inside sound single fits own
        (subst (λ (p : PlainPart). ArePartEntries d here p own) (sym e) (section_entries d here name m is)) old new
        (b ∙ ap (λ (ls : List PlainObjectLine). ls ++ objects.Section name m.width ∷ []) a)

    pub section_double : (f : SourceFault) → IsDouble l.line (first_double names (line_names l)) f → (f ≡ faults.NoMemory) ⊎ IsFaultOf d here names l f
    section_double f x = begun_fault d here names l inside sound f x

-- ---- cells

fits_not : (line width : ℕ) (vs : List PlainValue) → All (FitsCell width) vs → (g : SourceFault) → IsRangeFault line width vs g → ⊥
fits_not line width [] all g x = x
fits_not line width (Number n ∷ vs) all g (inl x) = x.0 (All-head (FitsCell width) (Number n) vs all)
fits_not line width (Number n ∷ vs) all g (inr x) = fits_not line width vs (All-tail (FitsCell width) (Number n) vs all) g x.1
fits_not line width (sources.Added s ∷ vs) all g x = fits_not line width vs (All-tail (FitsCell width) (sources.Added s) vs all) g x

module _ (d : DescriptionTree) (here : Option ArrayItem) (m : ArrayItem) (at : here ≡ Some m) (names : List (List ℕ)) (l : PlainLine) (values : List PlainValue) (e : l.part ≡ Cells values) where
  cells_inside : IsOutside here l → ⊥
  cells_inside x = let none_here = x.0 in cc (none_here, at)

  cells_sound : (g : SourceFault) → IsPartFault d here l.line l.part g → ⊥
  cells_sound g x =
      let y : IsPartFault d here l.line (Cells values) g = subst (λ (p : PlainPart). IsPartFault d here l.line p g) e x in
      subst (λ (h : Option ArrayItem). IsPartFault d h l.line (Cells values) g) at y

  pub cells_double : (f : SourceFault) → IsDouble l.line (first_double names (line_names l)) f → (f ≡ faults.NoMemory) ⊎ IsFaultOf d here names l f
  cells_double f x = begun_fault d here names l cells_inside cells_sound f x

  in_range : (f : SourceFault) → IsRangeFault l.line m.width values f → IsCellsFault here l.line l.part f
  in_range f x =
      let y : IsCellsFault here l.line (Cells values) f = subst (λ (h : Option ArrayItem). IsCellsFault h l.line (Cells values) f) (sym at) x in
      subst (λ (p : PlainPart). IsCellsFault here l.line p f) (sym e) y

  of_range : (f : SourceFault) → IsCellsFault here l.line l.part f → IsRangeFault l.line m.width values f
  of_range f x =
      let y : IsCellsFault here l.line (Cells values) f = subst (λ (p : PlainPart). IsCellsFault here l.line p f) e x in
      subst (λ (h : Option ArrayItem). IsCellsFault h l.line (Cells values) f) at y

  pub cells_range : first_double names (line_names l) ≡ None → (f : SourceFault) → (f ≡ faults.NoMemory) ⊎ IsRangeFault l.line m.width values f → (f ≡ faults.NoMemory) ⊎ IsFaultOf d here names l f
  cells_range single f (inl x) = inl x
  cells_range single f (inr x) = inr (range cells_inside single (in_range f x))

  pub cells_step : first_double names (line_names l) ≡ None → All (FitsCell m.width) values → (old mid new : List PlainObjectLine)
      → mid ≡ old ++ map Label l.labels → new ≡ mid ++ values_lines m.width values → IsStep d here names l old new
  cells_step single fits old mid new a b =
      let own : List (Entry SourceCell) = map (λ v. Put (Word m.width v)) values in
      let are : ArePartEntries d here (Cells values) own = subst (λ (h : Option ArrayItem). ArePartEntries d h (Cells values) own) (sym at) (fits, refl) in
      step d here names l cells_inside cells_sound single (λ g x. fits_not l.line m.width values fits g (of_range g x))
      own (subst (λ (p : PlainPart). ArePartEntries d here p own) (sym e) are) old new
      (b ∙ ap (λ (ls : List PlainObjectLine). ls ++ values_lines m.width values) a ∙ ap (λ (ls : List PlainObjectLine). (old ++ map Label l.labels) ++ ls) (sym (values_written d m.width values)))

-- ---- instructions

mapped_order : (order : List ℕ) (all shown : List Operand) → IsInOrder order all shown → IsInOrder order (map given all) (map given shown)
mapped_order order all shown o = record {
  long = length-map all given ∙ o.long;
  placed = λ k i e. slice_get-map given all i ∙ ap (option_map given) (o.placed k i e) ∙ sym (slice_get-map given shown k);
}

pub read_of : (d : DescriptionTree) (ts : List PlainToken) (r : Matched) → IsReading (all_shapes d) (all_orders d) ts r → IsRead (all_shapes d) (all_orders d) ts r.form (map given r.operands.items)
read_of d ts r reading = record {
  shown = map given reading.shown;
  is_match = reading.is_match;
  only = reading.only;
  in_order = mapped_order (order_at (all_orders d) r.form) r.operands.items reading.shown reading.in_order;
}

module _ (d : DescriptionTree) (here : Option ArrayItem) (m : ArrayItem) (at : here ≡ Some m) (names : List (List ℕ)) (l : PlainLine) (ts : List PlainToken) (e : l.part ≡ Instruction ts) where
  code_inside : IsOutside here l → ⊥
  code_inside x = let none_here = x.0 in cc (none_here, at)

  to_part : (f : SourceFault) → IsPartFault d (Some m) l.line (Instruction ts) f → IsPartFault d here l.line l.part f
  to_part f x =
      let y : IsPartFault d here l.line (Instruction ts) f = subst (λ (h : Option ArrayItem). IsPartFault d h l.line (Instruction ts) f) (sym at) x in
      subst (λ (p : PlainPart). IsPartFault d here l.line p f) (sym e) y

  of_part : (f : SourceFault) → IsPartFault d here l.line l.part f → IsPartFault d (Some m) l.line (Instruction ts) f
  of_part f x =
      let y : IsPartFault d here l.line (Instruction ts) f = subst (λ (p : PlainPart). IsPartFault d here l.line p f) e x in
      subst (λ (h : Option ArrayItem). IsPartFault d h l.line (Instruction ts) f) at y

  pub code_elsewhere : (HoldsInstructions d m → ⊥) → IsFaultOf d here names l (faults.NotProgram l.line)
  code_elsewhere out = let f : SourceFault = faults.NotProgram l.line in part code_inside (to_part f (inl (out, refl)))

  pub text_fault : HoldsInstructions d m → (f : SourceFault) → (f ≡ faults.NoMemory) ⊎ IsTextFault d l.line ts f → (f ≡ faults.NoMemory) ⊎ IsFaultOf d here names l f
  text_fault holds f (inl x) = inl x
  text_fault holds f (inr x) = inr (part code_inside (to_part f (inr (holds, x))))

  no_cells : (f : SourceFault) → IsCellsFault here l.line l.part f → ⊥
  no_cells f x =
      let y : IsCellsFault here l.line (Instruction ts) f = subst (λ (p : PlainPart). IsCellsFault here l.line p f) e x in
      subst (λ (h : Option ArrayItem). IsCellsFault h l.line (Instruction ts) f) at y

  module _ (holds : HoldsInstructions d m) (r : Matched) (reading : IsReading (all_shapes d) (all_orders d) ts r) where
    text_sound : (g : SourceFault) → IsTextFault d l.line ts g → ⊥
    text_sound g (none found is) = found r.form (map given reading.shown) reading.is_match
    text_sound g (two j k found is) =
        let j_is : j ≡ r.form = reading.only j found.1.0 found.1.1 in
        let k_is : k ≡ r.form = reading.only k found.2.0 found.2.1 in
        let less : j < k = found.0 in
        absurd (omega (arith, j_is, k_is, less))

    code_sound : (g : SourceFault) → IsPartFault d here l.line l.part g → ⊥
    code_sound g x = by (of_part g x)
      where
        by : ((HoldsInstructions d m → ⊥) × (g ≡ faults.NotProgram l.line)) ⊎ (HoldsInstructions d m × IsTextFault d l.line ts g) → ⊥
        by (inl y) = y.0 holds
        by (inr y) = text_sound g y.1

    entries : IsInstructionEntry d m ts (Put (Coded r.form (map given r.operands.items)) ∷ [])
    entries = record {
      form = r.form;
      given = map given r.operands.items;
      holds = holds;
      read = read_of d ts r reading;
      is = refl;
    }

    pub code_double : (f : SourceFault) → IsDouble l.line (first_double names (line_names l)) f → (f ≡ faults.NoMemory) ⊎ IsFaultOf d here names l f
    code_double f x = begun_fault d here names l code_inside code_sound f x

    pub code_step : first_double names (line_names l) ≡ None → (old mid new : List PlainObjectLine) → mid ≡ old ++ map Label l.labels
        → new ≡ mid ++ entry_lines (Put (object_cell d (Coded r.form (map given r.operands.items)))) → IsStep d here names l old new
    code_step single old mid new a b =
        let own : List (Entry SourceCell) = Put (Coded r.form (map given r.operands.items)) ∷ [] in
        let cell : List PlainObjectLine = entry_lines (Put (object_cell d (Coded r.form (map given r.operands.items)))) in
        let are : ArePartEntries d here (Instruction ts) own = subst (λ (h : Option ArrayItem). ArePartEntries d h (Instruction ts) own) (sym at) entries in
        step d here names l code_inside code_sound single no_cells
        own (subst (λ (p : PlainPart). ArePartEntries d here p own) (sym e) are) old new
        (b ∙ ap (λ (ls : List PlainObjectLine). ls ++ cell) a ∙ ap (λ (ls : List PlainObjectLine). (old ++ map Label l.labels) ++ ls) (sym (append-nil cell)))

-- ---- what is written as it stands

plain_sound : (d : DescriptionTree) (here : Option ArrayItem) (line : ℕ) (p : PlainPart) → IsPlainPart p → (g : SourceFault) → IsPartFault d here line p g → ⊥
plain_sound d None line Nothing plain g x = x
plain_sound d (Some m) line Nothing plain g x = x
plain_sound d None line (Global n) plain g x = x
plain_sound d (Some m) line (Global n) plain g x = x
plain_sound d None line (Equ n v) plain g x = x
plain_sound d (Some m) line (Equ n v) plain g x = x
plain_sound d None line (Space n) plain g x = x
plain_sound d (Some m) line (Space n) plain g x = x
plain_sound d here line (Section n) plain g x = plain
plain_sound d here line (Cells vs) plain g x = plain
plain_sound d here line (Instruction ts) plain g x = plain

plain_fits : (here : Option ArrayItem) (line : ℕ) (p : PlainPart) → IsPlainPart p → (g : SourceFault) → IsCellsFault here line p g → ⊥
plain_fits None line Nothing plain g x = x
plain_fits (Some m) line Nothing plain g x = x
plain_fits None line (Global n) plain g x = x
plain_fits (Some m) line (Global n) plain g x = x
plain_fits None line (Equ n v) plain g x = x
plain_fits (Some m) line (Equ n v) plain g x = x
plain_fits None line (Space n) plain g x = x
plain_fits (Some m) line (Space n) plain g x = x
plain_fits here line (Section n) plain g x = plain
plain_fits here line (Cells vs) plain g x = plain
plain_fits here line (Instruction ts) plain g x = plain

-- the entries of such a part
abbrev plain_own : PlainPart → List (Entry SourceCell)
plain_own Nothing = []
plain_own (Section n) = []
plain_own (Global n) = Share n ∷ []
plain_own (Equ n v) = Equal n v ∷ []
plain_own (Space n) = Room n ∷ []
plain_own (Cells vs) = []
plain_own (Instruction ts) = []

own_written : (d : DescriptionTree) (p : PlainPart) → IsPlainPart p → written d (plain_own p) ≡ plain_lines p
own_written d Nothing plain = refl
own_written d (Section n) plain = refl
own_written d (Global n) plain = refl
own_written d (Equ n v) plain = refl
own_written d (Space n) plain = refl
own_written d (Cells vs) plain = refl
own_written d (Instruction ts) plain = refl

module _ (d : DescriptionTree) (here : Option ArrayItem) (names : List (List ℕ)) (l : PlainLine) (plain : IsPlainPart l.part) (inside : IsOutside here l → ⊥) where
  room_placed : (h : Option ArrayItem) (n : ℕ) → here ≡ h → l.part ≡ Space n → IsSome h
  room_placed (Some m) n e is = search rules
  room_placed None n e is = absurd (inside (e, inl (ap needs_section is)))

  are_own : (p : PlainPart) → l.part ≡ p → IsPlainPart p → (h : Option ArrayItem) → here ≡ h → ArePartEntries d h p (plain_own p)
  are_own Nothing is plain None e = refl
  are_own Nothing is plain (Some m) e = refl
  are_own (Global n) is plain None e = refl
  are_own (Global n) is plain (Some m) e = refl
  are_own (Equ n v) is plain None e = refl
  are_own (Equ n v) is plain (Some m) e = refl
  are_own (Space n) is plain None e = (room_placed None n e is, refl)
  are_own (Space n) is plain (Some m) e = (room_placed (Some m) n e is, refl)
  are_own (Section n) is plain h e = absurd plain
  are_own (Cells vs) is plain h e = absurd plain
  are_own (Instruction ts) is plain h e = absurd plain

  pub plain_double : (f : SourceFault) → IsDouble l.line (first_double names (line_names l)) f → (f ≡ faults.NoMemory) ⊎ IsFaultOf d here names l f
  plain_double f x = begun_fault d here names l inside (plain_sound d here l.line l.part plain) f x

  pub plain_step : first_double names (line_names l) ≡ None → (old mid new : List PlainObjectLine) → mid ≡ old ++ map Label l.labels → new ≡ mid ++ plain_lines l.part → IsStep d here names l old new
  plain_step single old mid new e f =
      step d here names l inside (plain_sound d here l.line l.part plain) single (plain_fits here l.line l.part plain)
      (plain_own l.part) (are_own l.part refl plain here refl) old new
      (f ∙ ap (λ (ls : List PlainObjectLine). ls ++ plain_lines l.part) e ∙ ap (λ (ls : List PlainObjectLine). (old ++ map Label l.labels) ++ ls) (sym (own_written d l.part plain)))

-- such a part leaves the section as it is
pub section_kept : (d : DescriptionTree) (here : Option ArrayItem) (p : PlainPart) → IsPlainPart p → here ≡ section_behind d here p
section_kept d here Nothing plain = refl
section_kept d here (Section n) plain = absurd plain
section_kept d here (Global n) plain = refl
section_kept d here (Equ n v) plain = refl
section_kept d here (Space n) plain = refl
section_kept d here (Cells vs) plain = refl
section_kept d here (Instruction ts) plain = refl
