-- The numbers in the text of a form: each is a field of the form, and has at most as many bits.
use Rattle.std.proofs.Common.{◌≡◌, ◌<◌, ◌≤◌, ◌+◌, ◌++◌, ℕ, zero, suc, List, [], ◌∷◌, Bool, true, false, cond, nat_eq, length, map, refl, ap, arith}
use Rattle.std.specs.Prelude.{Option, None, slice_index_or, replicate}
use Rattle.std.specs.List.{All, AllByRecursion}
use Rattle.std.proofs.lemmas.List.{length-append}
use Rattle.asm_source.specs.Bytes.{is_word}
use Rattle.instruction_trees.specs.Trees.{Item, Fixed, Free, Field, Child, Table, coding, Tree, Done, Pass, Value, Choose, Fits, AnyValue, Form, In, here, there, form_bits, open_field}
use Rattle.instruction_trees.specs.Values.{numbered, owns, inners}
use Rattle.instruction_texts.specs.declared.shapes.Shape.{Shape}
use Rattle.instruction_texts.specs.declared.shapes.Shape.TheVariants.{Other, Literal, Unsigned, Signed}
use Rattle.instruction_texts.specs.Shapes.{IsSized}
use Rattle.instruction_texts.specs.Symbols.{Kind, Decimal, WithSign, Hexadecimal, Content, Text, Number, Part, Element, Sym, Byte, Gap, Shown, own_fields, shown_at, text_sym, written_by, gap, others, assemble, parts_of, symbols, gather, flush_shape, shown_values, AreWide}
use Rattle.instruction_texts.specs.Texts.{form_symbols}

module _ {V : Type 0} (Good : ℕ → V → Type 0) where
  -- each number that is written is so
  abbrev pub AreSo : List (Sym V) → Type 0
  AreSo [] = Unit {0}
  AreSo (Byte c ∷ s) = AreSo s
  AreSo (Gap ∷ s) = AreSo s
  AreSo (Shown kind n v ∷ s) = Good n v × AreSo s

  so_text : (bs : List ℕ) → AreSo (map text_sym bs)
  so_text [] = tt
  so_text (b ∷ bs) = by (nat_eq b 32) (so_text bs)
    where
      by : (c : Bool) → AreSo (map text_sym bs) → AreSo (cond {A = Sym V} c Gap (Byte b) ∷ map text_sym bs)
      by true h = h
      by false h = h

  so_gap : (b : Bool) → AreSo (gap b)
  so_gap true = tt
  so_gap false = tt

  so_both : (xs ys : List (Sym V)) → AreSo xs → AreSo ys → AreSo (xs ++ ys)
  so_both [] ys h g = g
  so_both (Byte c ∷ xs) ys h g = so_both xs ys h g
  so_both (Gap ∷ xs) ys h g = so_both xs ys h g
  so_both (Shown kind n v ∷ xs) ys h g = (h.0, so_both xs ys h.1 g)

  abbrev SoFields : List (ℕ × V) → Type 0
  SoFields fields = AllByRecursion (λ f. Good f.0 f.1) fields

  so_shown : (kind : Kind) (k : ℕ) (fields : List (ℕ × V)) → SoFields fields → AreSo (shown_at kind k fields)
  so_shown kind k [] h = tt
  so_shown kind zero (f ∷ fields) h = (h.0, tt)
  so_shown kind (suc k) (f ∷ fields) h = so_shown kind k fields h.1

  so_part : (parts : List (List (Sym V))) (k : ℕ) → AllByRecursion AreSo parts → AreSo (slice_index_or parts k [])
  so_part [] k h = tt
  so_part (p ∷ parts) zero h = h.0
  so_part (p ∷ parts) (suc k) h = so_part parts k h.1

  module _ (fields : List (ℕ × V)) (parts : List (List (Sym V))) (own : SoFields fields) (all : AllByRecursion AreSo parts) where
    so_written : (c : Content) → AreSo (written_by fields parts c)
    so_written (Text bs) = so_text bs
    so_written (Number kind k) = so_shown kind k fields own
    so_written (Part k) = so_part parts k all

    so_others : (es : List Element) → AreSo (others fields parts es)
    so_others [] = tt
    so_others (e ∷ es) = so_both (gap e.joined) (written_by fields parts e.content ++ others fields parts es) (so_gap e.joined) (so_both (written_by fields parts e.content) (others fields parts es) (so_written e.content) (so_others es))

    so_assembled : (es : List Element) → AreSo (assemble fields parts es)
    so_assembled [] = tt
    so_assembled (e ∷ es) = so_both (written_by fields parts e.content) (others fields parts es) (so_written e.content) (so_others es)

  -- ---- trees

  module _ (table : Table) where
    so_fields : (t : Tree V) (items : List Item) → Fits Good table t items → SoFields (own_fields t items)
    so_fields Done [] fits = tt
    so_fields (Pass t) (Fixed c ∷ items) fits = so_fields t items fits
    so_fields (Pass t) (Free ∷ items) fits = so_fields t items fits
    so_fields (Value v t) (Field n ∷ items) fits = (fits.0, so_fields t items fits.1)
    so_fields (Choose k own t) (Child ks ∷ items) fits = so_fields t items fits.2
    so_fields _ _ fits = absurd fits

    module _ (syntax : List (List Element)) where
      so_parts : (t : Tree V) (items : List Item) → Fits Good table t items → AllByRecursion AreSo (parts_of table syntax t)
      so_parts Done [] fits = tt
      so_parts (Pass t) (Fixed c ∷ items) fits = so_parts t items fits
      so_parts (Pass t) (Free ∷ items) fits = so_parts t items fits
      so_parts (Value v t) (Field n ∷ items) fits = so_parts t items fits.1
      so_parts (Choose k own t) (Child ks ∷ items) fits = (
        so_assembled (own_fields own (coding table k)) (parts_of table syntax own) (so_fields own (coding table k) fits.1) (so_parts own (coding table k) fits.1) (slice_index_or syntax k []),
        so_parts t items fits.2,
      )
      so_parts _ _ fits = absurd fits

      pub so_symbols : (k : ℕ) (t : Tree V) → Fits Good table t (coding table k) → AreSo (symbols table syntax k t)
      so_symbols k t fits = so_assembled (own_fields t (coding table k)) (parts_of table syntax t) (so_fields t (coding table k) fits) (so_parts t (coding table k) fits) (slice_index_or syntax k [])

  -- those that are shown
  pub shown_so : (P : V → Type 0) → ((n : ℕ) (v : V) → Good n v → P v) → (s : List (Sym V)) → AreSo s → (v : V) → In v (shown_values s) → P v
  shown_so P of [] h v i = elim i [ ]
  shown_so P of (Byte c ∷ s) h v i = shown_so P of s h v i
  shown_so P of (Gap ∷ s) h v i = shown_so P of s h v i
  shown_so P of (Shown kind n u ∷ s) h v (here) = of n u h.0
  shown_so P of (Shown kind n u ∷ s) h v (there i) = shown_so P of s h.1 v i

-- ---- how many bits a field has

abbrev pub AtMost : ℕ → ℕ → ℕ → Type 0
AtMost most n v = n ≤ most

replicated : (n : ℕ) → length (replicate {A = Option Bool} n None) ≡ n
replicated zero = refl
replicated (suc n) = ap suc (replicated n)

module _ (table : Table) (most : ℕ) where
  abbrev bit_count : Form → List Item → ℕ
  bit_count t items = length (form_bits table t items)

  fits_narrow : (a b : ℕ) (t : Form) (items : List Item) → Fits AnyValue table t items → bit_count t items ≤ most → Fits (AtMost most) table (numbered a b t) items
  fits_narrow a b Done [] fits h = tt
  fits_narrow a b (Pass t) (Fixed c ∷ items) fits h = fits_narrow a b t items fits (omega (arith, h))
  fits_narrow a b (Pass t) (Free ∷ items) fits h = fits_narrow a b t items fits (omega (arith, h))
  fits_narrow a b (Value v t) (Field n ∷ items) fits h =
      let e = length-append (open_field n v) (form_bits table t items) in
      let r = replicated n in
      (omega (arith, e, r, h), fits_narrow (suc a) b t items fits.1 (omega (arith, e, r, h)))
  fits_narrow a b (Choose k own t) (Child ks ∷ items) fits h =
      let e = length-append (form_bits table own (coding table k)) (form_bits table t items) in
      (fits.0, fits_narrow b (b + owns own) own (coding table k) fits.1 (omega (arith, e, h)), fits_narrow a (b + (owns own + inners own)) t items fits.2 (omega (arith, e, h)))
  fits_narrow a b _ _ fits h = absurd fits

  -- a form of no more bits writes no number of more
  pub narrow_form : (syntax : List (List Element)) (k : ℕ) (t : Form) → Fits AnyValue table t (coding table k) → length (form_bits table t (coding table k)) ≤ most → AreSo (AtMost most) (form_symbols table syntax k t)
  narrow_form syntax k t fits h = so_symbols (AtMost most) table syntax k (numbered 0 (owns t) t) (fits_narrow 0 (owns t) t (coding table k) fits h)

-- ---- which fields a form has

abbrev pub IsOneOf : ℕ → ℕ → ℕ → Type 0
IsOneOf count n v = v < count

module _ (table : Table) (count : ℕ) where
  pub fits_numbers : (a b : ℕ) (t : Form) (items : List Item) → Fits AnyValue table t items → a + owns t ≤ count → b + inners t ≤ count → Fits (IsOneOf count) table (numbered a b t) items
  fits_numbers a b Done [] fits h g = tt
  fits_numbers a b (Pass t) (Fixed c ∷ items) fits h g = fits_numbers a b t items fits h g
  fits_numbers a b (Pass t) (Free ∷ items) fits h g = fits_numbers a b t items fits h g
  fits_numbers a b (Value v t) (Field n ∷ items) fits h g = (omega (arith, h), fits_numbers (suc a) b t items fits.1 (omega (arith, h)) g)
  fits_numbers a b (Choose k own t) (Child ks ∷ items) fits h g =
      (fits.0, fits_numbers b (b + owns own) own (coding table k) fits.1 (omega (arith, g)) (omega (arith, g)), fits_numbers a (b + (owns own + inners own)) t items fits.2 h (omega (arith, g)))
  fits_numbers a b _ _ fits h g = absurd fits

-- a form shows no field that it hasn't
pub shown_inside : (table : Table) (syntax : List (List Element)) (k : ℕ) (t : Form) → Fits AnyValue table t (coding table k) → (i : ℕ) → In i (shown_values (form_symbols table syntax k t)) → i < owns t + inners t
shown_inside table syntax k t fits i at =
    shown_so (IsOneOf (owns t + inners t)) (λ v. v < owns t + inners t) (λ n v h. h) (form_symbols table syntax k t)
    (so_symbols (IsOneOf (owns t + inners t)) table syntax k (numbered 0 (owns t) t) (fits_numbers table (owns t + inners t) 0 (owns t) t (coding table k) fits (omega arith) (omega arith))) i at

-- ---- pieces

cons_sized : (s : Shape) (ss : List Shape) → IsSized s → All IsSized ss → All IsSized (s ∷ ss)
cons_sized s ss one all = by
  where
    by : (k : ℕ) (d : Shape) → k < length (s ∷ ss) → IsSized (slice_index_or (s ∷ ss) k d)
    by zero d h = one
    by (suc k) d h = all k d (omega (arith, h))

flushed : (p : List ℕ) (ss : List Shape) → All IsSized ss → All IsSized (flush_shape p ss)
flushed [] ss all = all
flushed (c ∷ p) ss all = cons_sized (Literal (c ∷ p)) ss tt all

none_sized : All IsSized []
none_sized = λ k d h. absurd (omega (arith, h))

pub pieces_sized : (p : List ℕ) (s : List (Sym ℕ)) → AreWide s → AreSo (AtMost 64) s → All IsSized (gather p s)
pieces_sized p [] wide narrow = flushed p [] none_sized
pieces_sized p (Gap ∷ s) wide narrow = flushed p (gather [] s) (pieces_sized [] s wide narrow)
pieces_sized p (Byte c ∷ s) wide narrow = by (is_word c) (pieces_sized (p ++ c ∷ []) s wide narrow) (pieces_sized [] s wide narrow)
  where
    by : (b : Bool) → All IsSized (gather (p ++ c ∷ []) s) → All IsSized (gather [] s) → All IsSized (cond b (gather (p ++ c ∷ []) s) (flush_shape p (Other c ∷ gather [] s)))
    by true h g = h
    by false h g = flushed p (Other c ∷ gather [] s) (cons_sized (Other c) (gather [] s) tt g)
pieces_sized p (Shown Decimal n v ∷ s) wide narrow = cons_sized (Unsigned false p n) (gather [] s) (wide.0, narrow.0) (pieces_sized [] s wide.1 narrow.1)
pieces_sized p (Shown Hexadecimal n v ∷ s) wide narrow = cons_sized (Unsigned true p n) (gather [] s) (wide.0, narrow.0) (pieces_sized [] s wide.1 narrow.1)
pieces_sized p (Shown WithSign n v ∷ s) wide narrow = cons_sized (Signed p n) (gather [] s) (wide.0, narrow.0) (pieces_sized [] s wide.1 narrow.1)
