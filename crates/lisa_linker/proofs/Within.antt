-- Each cell of linked objects is within its memory's width.
use Rattle.std.proofs.Common.{◌≡◌, ◌<◌, ◌+◌, ◌^◌, ℕ, zero, suc, ℤ, Bool, true, false, List, [], ◌∷◌, length, get_or, Option, None, Some, refl, sym, ap, subst, ◌∙◌, arith}
use Rattle.std.specs.Prelude.{All, replicate, flat_map}
use Rattle.std.specs.Option.{option_or}
use Rattle.std.specs.Str.{bytes_eq}
use Rattle.std.proofs.lemmas.Bool.{eqb-true}
use Rattle.std.proofs.lemmas.Nat.{pow_pos}
use Rattle.std.proofs.lemmas.List.Elements.{All-nil, All-cons, All-append}
use Rattle.std.proofs.lemmas.Slice.Eq.{bytes_eq-Decides}
use Rattle.lisa_object.specs.declared.rules.Standing.{Standing}
use Rattle.lisa_object.specs.Objects.{PlainObject, PlainObjectLine, Section, Space, Label, Equ, Global, Cell, Fix}
use Rattle.lisa_object.specs.ObjectRules.{IsObject}
use Rattle.lisa_object.specs.LineMachine.{start, after, are_lines}
use Rattle.lisa_object.proofs.LineRules.{rules_make_lines}
use Rattle.placed_programs.specs.Entries.{entries_of}
use Rattle.placed_programs.specs.Addresses.{Counts, counts_after, definitions}
use Rattle.placed_programs.specs.Symbols.{Symbols, with_counts, symbol}
use Rattle.placed_programs.specs.Placed.{object_sense, cells_in, part_cells}
use Rattle.object_links.specs.Firsts.{first_of}
use Rattle.object_links.specs.LinkFaults.{has_width, if_unknown, unknown}
use Rattle.object_links.specs.LineNames.{parts_of}
use Rattle.lisa_linker.specs.LineValues.{cell_before}
use Rattle.lisa_linker.proofs.FixBits.{followed, cell_fits}

pub none_both : {V : Type 0} (x y : Option V) → option_or x y ≡ None → (x ≡ None) × (y ≡ None)
none_both None y e = (refl, e)
none_both (Some x) y e = absurd (cc e)

-- a section that isn't unknown has the width of its memory
known_width : (widths : List ℕ → Option ℕ) (n : List ℕ) (w whole : ℕ) → if_unknown widths n w ≡ None → widths n ≡ Some whole → w ≡ whole
known_width widths n w whole e is = by (has_width (widths n) w) refl
  where
    by : (b : Bool) → has_width (widths n) w ≡ b → w ≡ whole
    by true t = sym (eqb-true whole w (sym (ap (λ (o : Option ℕ). has_width o w) is) ∙ t))
    by false t = absurd (let told : if_unknown widths n w ≡ Some n = rw t in cc (told, e))

zeros_within : (n w : ℕ) → All (λ v. v < 2 ^ w) (replicate n 0)
zeros_within zero w = All-nil (λ v. v < 2 ^ w)
zeros_within (suc n) w = All-cons (λ v. v < 2 ^ w) 0 (replicate n 0) (pow_pos w) (zeros_within n w)

module _ (widths : List ℕ → Option ℕ) (symbols : Symbols) (m : List ℕ) (w : ℕ) (is : widths m ≡ Some w) where
  abbrev Within : List ℕ → Type 0
  Within vs = All (λ v. v < 2 ^ w) vs

  entered_width : (n : List ℕ) (v : ℕ) → if_unknown widths n v ≡ None → bytes_eq m n ≡ true → v ≡ w
  entered_width n v e t =
      let same : m ≡ n = (bytes_eq-Decides m n).0 t in
      known_width widths n v w e (sym (ap widths same) ∙ is)

  pub lines_within : (st : Standing) (b : Bool) (a : ℕ) (ls : List PlainObjectLine) → are_lines st ls ≡ true → first_of (unknown widths) (entries_of ls) ≡ None
      → (b ≡ true → st.width ≡ w) → Within (cells_in object_sense symbols m b a (entries_of ls))
  lines_within st true a [] e known same = All-nil (λ v. v < 2 ^ w)
  lines_within st false a [] e known same = All-nil (λ v. v < 2 ^ w)
  lines_within st true a (Section n v ∷ ls) e known same =
      let k = none_both (if_unknown widths n v) (first_of (unknown widths) (entries_of ls)) known in
      lines_within (after st (Section n v)) (bytes_eq m n) (a + 0) ls (followed st (Section n v) ls e).rest k.1 (λ t. entered_width n v k.0 t)
  lines_within st true a (Space n ∷ ls) e known same =
      All-append (λ v. v < 2 ^ w) (replicate n 0) (cells_in object_sense symbols m true (a + n) (entries_of ls)) (zeros_within n w)
      (lines_within (after st (Space n)) true (a + n) ls (followed st (Space n) ls e).rest known same)
  lines_within st true a (Label n ∷ ls) e known same = lines_within (after st (Label n)) true (a + 0) ls (followed st (Label n) ls e).rest known same
  lines_within st true a (Equ n v ∷ ls) e known same = lines_within (after st (Equ n v)) true (a + 0) ls (followed st (Equ n v) ls e).rest known same
  lines_within st true a (Global n ∷ ls) e known same = lines_within (after st (Global n)) true (a + 0) ls (followed st (Global n) ls e).rest known same
  lines_within st true a (Cell v ∷ ls) e known same =
      let P : ℕ → Type 0 = λ k. object_sense symbols a (cell_before v ls) < 2 ^ k in
      All-cons (λ v. v < 2 ^ w) (object_sense symbols a (cell_before v ls)) (cells_in object_sense symbols m true (a + 1) (entries_of ls))
      (subst P (same refl) (cell_fits symbols a st v ls e))
      (lines_within (after st (Cell v)) true (a + 1) ls (followed st (Cell v) ls e).rest known same)
  lines_within st true a (Fix l v k s ∷ ls) e known same = lines_within (after st (Fix l v k s)) true a ls (followed st (Fix l v k s) ls e).rest known same
  lines_within st false a (Section n v ∷ ls) e known same =
      let k = none_both (if_unknown widths n v) (first_of (unknown widths) (entries_of ls)) known in
      lines_within (after st (Section n v)) (bytes_eq m n) a ls (followed st (Section n v) ls e).rest k.1 (λ t. entered_width n v k.0 t)
  lines_within st false a (Space n ∷ ls) e known same = lines_within (after st (Space n)) false a ls (followed st (Space n) ls e).rest known (λ t. absurd (cc t))
  lines_within st false a (Label n ∷ ls) e known same = lines_within (after st (Label n)) false a ls (followed st (Label n) ls e).rest known (λ t. absurd (cc t))
  lines_within st false a (Equ n v ∷ ls) e known same = lines_within (after st (Equ n v)) false a ls (followed st (Equ n v) ls e).rest known (λ t. absurd (cc t))
  lines_within st false a (Global n ∷ ls) e known same = lines_within (after st (Global n)) false a ls (followed st (Global n) ls e).rest known (λ t. absurd (cc t))
  lines_within st false a (Cell v ∷ ls) e known same = lines_within (after st (Cell v)) false a ls (followed st (Cell v) ls e).rest known (λ t. absurd (cc t))
  lines_within st false a (Fix l v k s ∷ ls) e known same = lines_within (after st (Fix l v k s)) false a ls (followed st (Fix l v k s) ls e).rest known (λ t. absurd (cc t))

pub parts_within : (widths : List ℕ → Option ℕ) (shared : List (List ℕ × ℤ)) (m : List ℕ) (w : ℕ) → widths m ≡ Some w → (counts : Counts) (objects : List PlainObject)
    → ((i : ℕ) (d : PlainObject) → i < length objects → IsObject (get_or objects i d)) → first_of (first_of (unknown widths)) (parts_of objects) ≡ None
    → All (λ v. v < 2 ^ w) (flat_map (part_cells object_sense shared m) (with_counts counts (parts_of objects)))
parts_within widths shared m w is counts [] all known = All-nil (λ v. v < 2 ^ w)
parts_within widths shared m w is counts (o ∷ objects) all known =
    let k = none_both (first_of (unknown widths) (entries_of o.lines)) (first_of (first_of (unknown widths)) (parts_of objects)) known in
    let own : IsObject o = all 0 o (omega arith) in
    All-append (λ v. v < 2 ^ w) (part_cells object_sense shared m (counts, entries_of o.lines))
    (flat_map (part_cells object_sense shared m) (with_counts (counts_after counts None (entries_of o.lines)) (parts_of objects)))
    (lines_within widths (symbol (definitions counts None (entries_of o.lines)) shared) m w is start false (counts m) o.lines (rules_make_lines o.lines own.lines) k.0 (λ t. absurd (cc t)))
    (parts_within widths shared m w is (counts_after counts None (entries_of o.lines)) objects (λ i d lt. all (suc i) d (omega arith)) k.1)
