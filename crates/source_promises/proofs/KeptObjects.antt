-- The object of a source keeps the rules of objects.
use Rattle.std.proofs.Common.{◌≡◌, ◌≢◌, ◌<◌, ◌≤◌, ◌∙◌, ℕ, Bool, true, false, cond, List, [], ◌∷◌, ◌++◌, append_assoc, append-nil, Option, None, Some, Ok, map, refl, sym, ap, ap₂, subst, arith}
use Rattle.std.specs.Prelude.{All, AllPairs, find, flat_map}
use Rattle.std.specs.List.{AllByRecursion}
use Rattle.std.specs.Option.{IsSome}
use Rattle.std.specs.Str.{bytes_eq}
use Rattle.std.proofs.lemmas.Bool.{false≢true}
use Rattle.std.proofs.lemmas.List.Elements.{recursion_from_All}
use Rattle.lisa_tree.specs.Descriptions.{DescriptionTree}
use Rattle.lisa_engine.specs.declared.parts.ArrayItem.{ArrayItem}
use Rattle.lisa_assembler.specs.lisa_machine.Verdicts.{IsAccepted}
use Rattle.asm_source.specs.Plain.{PlainValue, PlainPart, Nothing, Section, Global, Equ, Cells, Space, Instruction, PlainLine}
use Rattle.asm_source.specs.Source.{source_of}
use Rattle.instruction_trees.specs.Trees.{Table, Item, Form}
use Rattle.tree_fields.specs.Apart.{IsApart}
use Rattle.tree_fields.specs.Placed.{places}
use Rattle.lisa_assembler.specs.coding_tables.Codings.{coding_table}
use Rattle.lisa_assembler.specs.coding_tables.Instructions.{instruction_items, forms_of}
use Rattle.pattern_tables.specs.Instructions.{form_at}
use Rattle.lisa_assembler.specs.lisa_forms.Verdicts.{HasForms}
use Rattle.lisa_object.specs.Objects.{PlainObject, PlainObjectLine}
use Rattle.lisa_object.specs.Objects as objects
use Rattle.lisa_object.specs.Rules.{IsDigest}
use Rattle.lisa_object.specs.ObjectRules.{AreLines, defined, IsObject}
use Rattle.lisa_object.specs.LineMachine.{start, are_lines}
use Rattle.lisa_object.proofs.LineRules.{lines_keep_rules}
use Rattle.placed_programs.specs.Entries.{Entry, Enter, Room, Put, Mark, Equal, Share, PlainFix, PlainCell, mapped, fix_line, entry_lines, lines_of}
use Rattle.lisa_assembler.specs.Memories.{memory_items, memory_named}
use Rattle.lisa_assembler.specs.Places.{HasWords}
use Rattle.lisa_assembler.specs.Objects.{object_cell, digest_of, IsObjectOf}
use Rattle.lisa_assembler.specs.Sources.{SourceCell, Word, Coded, ArePartEntries, section_behind, AreLineEntries, AreEntries, part_names, line_names}
use Rattle.source_promises.proofs.SoundLines.{IsName, IsSoundValue, IsSoundPart, IsSoundLine, lines_sound}
use Rattle.source_promises.proofs.KeptLines.{GoesOn, none_on, both_on, whole_on, section_on, space_on, label_on, equ_on, global_on, cell_on, IsKeptCell}
use Rattle.source_promises.proofs.KeptCells.{word_kept, coded_kept}

found_is : {A : Type 0} (P : A → Type 0) (p : A → Bool) (xs : List A) → AllByRecursion P xs → (x : A) → find p xs ≡ Some x → P x
found_is P p [] all x e = absurd (cc e)
found_is {A} P p (y ∷ ys) all x e = by (p y) e (λ h. found_is P p ys all.1 x h)
  where
    same : (a b : A) → Some a ≡ Some b → a ≡ b
    same a b e = cc

    by : (t : Bool) → cond t (Some y) (find p ys) ≡ Some x → (find p ys ≡ Some x → P x) → P x
    by true h later = subst P (same y x h) all.0
    by false h later = later h

defined_both : (xs ys : List PlainObjectLine) → flat_map defined (xs ++ ys) ≡ flat_map defined xs ++ flat_map defined ys
defined_both [] ys = refl
defined_both (x ∷ xs) ys = ap (λ (l : List (List ℕ)). defined x ++ l) (defined_both xs ys) ∙ sym (append_assoc (defined x) (flat_map defined xs) (flat_map defined ys))

fixes_define : (fs : List PlainFix) → flat_map defined (map fix_line fs) ≡ []
fixes_define [] = refl
fixes_define (f ∷ fs) = fixes_define fs

module _ (d : DescriptionTree) where
  abbrev own_lines : List (Entry SourceCell) → List PlainObjectLine
  own_lines es = lines_of (map (mapped (object_cell d)) es)

  own_both : (xs ys : List (Entry SourceCell)) → own_lines (xs ++ ys) ≡ own_lines xs ++ own_lines ys
  own_both [] ys = refl
  own_both (x ∷ xs) ys =
      let first : List PlainObjectLine = entry_lines (mapped (object_cell d) x) in
      ap (λ (l : List PlainObjectLine). first ++ l) (own_both xs ys) ∙ sym (append_assoc first (own_lines xs) (own_lines ys))

  -- ---- the names that are defined

  abbrev names_in : List (Entry SourceCell) → List (List ℕ)
  names_in es = flat_map defined (own_lines es)

  cell_defines : (c : SourceCell) (es : List (Entry SourceCell)) → names_in (Put c ∷ es) ≡ names_in es
  cell_defines c es =
      let fixes : List PlainFix = (object_cell d c).fixes in
      defined_both (map fix_line fixes) (own_lines es) ∙ ap (λ (l : List (List ℕ)). l ++ names_in es) (fixes_define fixes)

  values_define : (w : ℕ) (vs : List PlainValue) → names_in (map (λ v. Put (Word w v)) vs) ≡ []
  values_define w [] = refl
  values_define w (v ∷ vs) = cell_defines (Word w v) (map (λ v. Put (Word w v)) vs) ∙ values_define w vs

  part_defines : (here : Option ArrayItem) (p : PlainPart) (es : List (Entry SourceCell)) → ArePartEntries d here p es → names_in es ≡ part_names p
  part_defines here Nothing es are = ap names_in are
  part_defines here (Section n) es are = ap names_in are.2
  part_defines here (Global n) es are = ap names_in are
  part_defines here (Equ n v) es are = ap names_in are
  part_defines here (Space n) es are = ap names_in are.1
  part_defines None (Cells vs) es are = absurd are
  part_defines (Some m) (Cells vs) es are = ap names_in are.1 ∙ values_define m.width vs
  part_defines None (Instruction ts) es are = absurd are
  part_defines (Some m) (Instruction ts) es are = ap names_in are.is ∙ cell_defines (Coded are.form are.given) []

  labels_define : (labels : List (List ℕ)) → names_in (map Mark labels) ≡ labels
  labels_define [] = refl
  labels_define (n ∷ labels) = ap (λ (l : List (List ℕ)). n ∷ l) (labels_define labels)

  line_defines : (here : Option ArrayItem) (l : PlainLine) (es : List (Entry SourceCell)) → AreLineEntries d here l es → names_in es ≡ line_names l
  line_defines here l es are =
      ap names_in are.is
      ∙ ap (flat_map defined) (own_both (map Mark l.labels) are.own)
      ∙ defined_both (own_lines (map Mark l.labels)) (own_lines are.own)
      ∙ ap₂ (λ (x y : List (List ℕ)). x ++ y) (labels_define l.labels) (part_defines here l.part are.own are.part)

  lines_define : (here : Option ArrayItem) (ls : List PlainLine) (es : List (Entry SourceCell)) → AreEntries d here ls es → names_in es ≡ flat_map line_names ls
  lines_define here [] es are = ap names_in are
  lines_define here (l ∷ ls) es (own, rest, line, behind, is) =
      ap names_in is
      ∙ ap (flat_map defined) (own_both own rest)
      ∙ defined_both (own_lines own) (own_lines rest)
      ∙ ap₂ (λ (x y : List (List ℕ)). x ++ y) (line_defines here l own line) (lines_define (section_behind d here l.part) ls rest behind)

  -- ---- lines that follow each other

  abbrev width_of : Option ArrayItem → ℕ
  width_of None = 0
  width_of (Some m) = m.width

  abbrev IsHere : Option ArrayItem → Type 0
  IsHere None = Unit {0}
  IsHere (Some m) = HasWords m

  module _ (accepted : IsAccepted d) (has : HasForms d) (words : All HasWords (memory_items d)) (apart : (table : Table) (items : List Item) (f : Form) → AllPairs IsApart (places table f items)) where
    named_is : (n : List ℕ) (m : ArrayItem) → memory_named d n ≡ Some m → HasWords m
    named_is n m e = found_is HasWords (λ a. bytes_eq a.name n) (memory_items d) (recursion_from_All HasWords (memory_items d) words) m e

    behind_is : (here : Option ArrayItem) → IsHere here → (p : PlainPart) → IsHere (section_behind d here p)
    behind_is here is Nothing = is
    behind_is here is (Section n) = by (memory_named d n) refl
      where
        by : (o : Option ArrayItem) → memory_named d n ≡ o → IsHere o
        by None e = tt
        by (Some m) e = named_is n m e
    behind_is here is (Global n) = is
    behind_is here is (Equ n v) = is
    behind_is here is (Space n) = is
    behind_is here is (Cells vs) = is
    behind_is here is (Instruction ts) = is

    some_width : (here : Option ArrayItem) → IsHere here → IsSome here → 0 < width_of here
    some_width None is some = absurd (false≢true some)
    some_width (Some m) is some = is.narrow

    one_cell : (w : ℕ) (c : SourceCell) (es : List (Entry SourceCell)) → 0 < w → IsKeptCell w (object_cell d c) → GoesOn w (own_lines es) w → GoesOn w (own_lines (Put c ∷ es)) w
    one_cell w c es some kept more = both_on w w w (entry_lines (Put (object_cell d c))) (own_lines es) (cell_on w (object_cell d c) some kept) more

    values_on : (w : ℕ) (vs : List PlainValue) → 0 < w → AllByRecursion IsSoundValue vs → GoesOn w (own_lines (map (λ v. Put (Word w v)) vs)) w
    values_on w [] some sound = none_on w
    values_on w (v ∷ vs) some sound = one_cell w (Word w v) (map (λ v. Put (Word w v)) vs) some (word_kept d w v some sound.0) (values_on w vs some sound.1)

    abbrev On : Option ArrayItem → PlainPart → List (Entry SourceCell) → Type 0
    On here p es = GoesOn (width_of here) (own_lines es) (width_of (section_behind d here p))

    part_on : (here : Option ArrayItem) → IsHere here → (p : PlainPart) → IsSoundPart p → (es : List (Entry SourceCell)) → ArePartEntries d here p es → On here p es
    part_on here is Nothing sound es are = subst (On here Nothing) (sym are) (none_on (width_of here))
    part_on here is (Section n) sound es are =
        let place = named_is n are.0 are.1 in
        subst (On here (Section n)) (sym are.2)
        (subst (λ (o : Option ArrayItem). GoesOn (width_of here) (own_lines (Enter n are.0.width ∷ [])) (width_of o)) (sym are.1) (section_on (width_of here) are.0.width n sound place.narrow place.wide))
    part_on here is (Global n) sound es are = subst (On here (Global n)) (sym are) (global_on (width_of here) n sound)
    part_on here is (Equ n v) sound es are = subst (On here (Equ n v)) (sym are) (equ_on (width_of here) n v sound.0 sound.1)
    part_on here is (Space n) sound es are = subst (On here (Space n)) (sym are.1) (space_on (width_of here) n (some_width here is are.0) sound)
    part_on None is (Cells vs) sound es are = absurd are
    part_on (Some m) is (Cells vs) sound es are = subst (On (Some m) (Cells vs)) (sym are.1) (values_on m.width vs is.narrow sound)
    part_on None is (Instruction ts) sound es are = absurd are
    part_on (Some m) is (Instruction ts) sound es are =
        let kept = coded_kept d accepted has are.form are.given ts are.read m.width are.holds (apart (coding_table d) (instruction_items d) (form_at (forms_of d) are.form)) sound in
        subst (On (Some m) (Instruction ts)) (sym are.is) (one_cell m.width (Coded are.form are.given) [] is.narrow kept (none_on m.width))

    labels_on : (here : Option ArrayItem) → IsHere here → (labels : List (List ℕ)) → (labels ≢ [] → IsSome here) → AllByRecursion IsName labels → GoesOn (width_of here) (own_lines (map Mark labels)) (width_of here)
    labels_on here is [] placed sound = none_on (width_of here)
    labels_on here is (n ∷ labels) placed sound =
        let some = placed (λ e. cc e) in
        both_on (width_of here) (width_of here) (width_of here) (objects.Label n ∷ []) (own_lines (map Mark labels)) (label_on (width_of here) n (some_width here is some) sound.0)
        (labels_on here is labels (λ e. some) sound.1)

    line_on : (here : Option ArrayItem) → IsHere here → (l : PlainLine) → IsSoundLine l → (es : List (Entry SourceCell)) → AreLineEntries d here l es → On here l.part es
    line_on here is l sound es are =
        let w = width_of here in
        let v = width_of (section_behind d here l.part) in
        subst (λ (ls : List PlainObjectLine). GoesOn w ls v) (sym (ap own_lines are.is ∙ own_both (map Mark l.labels) are.own))
        (both_on w w v (own_lines (map Mark l.labels)) (own_lines are.own) (labels_on here is l.labels are.placed sound.labels) (part_on here is l.part sound.part are.own are.part))

    lines_on : (here : Option ArrayItem) → IsHere here → (ls : List PlainLine) → AllByRecursion IsSoundLine ls → (es : List (Entry SourceCell)) → AreEntries d here ls es
        → (v : ℕ) × GoesOn (width_of here) (own_lines es) v
    lines_on here is [] sound es are = (width_of here, subst (λ (es : List (Entry SourceCell)). GoesOn (width_of here) (own_lines es) (width_of here)) (sym are) (none_on (width_of here)))
    lines_on here is (l ∷ ls) sound es (own, rest, line, behind, e) =
        let w = width_of here in
        let next = section_behind d here l.part in
        let more = lines_on next (behind_is here is l.part) ls sound.1 rest behind in (
          more.0,
          subst (λ (ls : List PlainObjectLine). GoesOn w ls more.0) (sym (ap own_lines e ∙ own_both own rest))
              (both_on w (width_of next) more.0 (own_lines own) (own_lines rest) (line_on here is l sound.0 own line) more.1),
        )

    pub keeps_rules : (bytes : List ℕ) (ls : List PlainLine) (o : PlainObject) → IsDigest (digest_of d) → source_of bytes ≡ Ok ls → IsObjectOf d ls o → IsObject o
    keeps_rules bytes ls o digest says object =
        let es : List (Entry SourceCell) = object.entries in
        let on = lines_on None tt ls (lines_sound bytes ls says) es object.source.entries in
        let stand : are_lines start (own_lines es) ≡ true = subst (λ (l : List PlainObjectLine). are_lines start l ≡ true) (append-nil (own_lines es)) (whole_on 0 on.0 (own_lines es) on.1 start refl) in
        let names : names_in es ≡ flat_map line_names ls = lines_define None ls es object.source.entries in
        record {
          digest = subst IsDigest (sym object.stamped) digest;
          lines = subst AreLines (sym object.is) (lines_keep_rules (own_lines es) stand);
          distinct = subst (λ (l : List PlainObjectLine). AllPairs (λ a b. a ≢ b) (flat_map defined l)) (sym object.is) (subst (AllPairs (λ a b. a ≢ b)) (sym names) object.source.distinct);
        }
