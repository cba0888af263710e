-- Trees of operations that pass a test write the same by two syntaxes that agree on those, and no field without a bit.
use Rattle.std.proofs.Common.{◌≡◌, ◌<◌, ◌+◌, ◌++◌, ℕ, zero, suc, List, [], ◌∷◌, Bool, true, false, cond, nat_eq, map, refl, ap, ap₂, ◌∙◌}
use Rattle.std.specs.Prelude.{slice_index_or}
use Rattle.std.specs.List.{AllByRecursion}
use Rattle.instruction_trees.specs.Trees.{Item, Fixed, Free, Field, Child, Table, coding, Tree, Done, Pass, Value, Choose, Fits, AnyValue, In}
use Rattle.instruction_trees.specs.Values.{numbered, owns, inners}
use Rattle.form_texts.specs.instruction_texts.Symbols.{Kind, Content, Text, Number, Part, Element, Sym, Byte, Gap, Shown, own_fields, shown_at, text_sym, written_by, gap, others, assemble, parts_of, symbols, AreWide}

-- each field has some bit, and each alternative of a child passes
abbrev pub AreGood : (ℕ → Type 0) → List Item → Type 0
AreGood P [] = Unit {0}
AreGood P (Fixed b ∷ items) = AreGood P items
AreGood P (Free ∷ items) = AreGood P items
AreGood P (Field n ∷ items) = (0 < n) × AreGood P items
AreGood P (Child ks ∷ items) = ((k : ℕ) → In k ks → P k) × AreGood P items

pub fits_numbered : {V : Type 0} (table : Table) (a b : ℕ) (t : Tree V) (items : List Item) → Fits AnyValue table t items → Fits AnyValue table (numbered a b t) items
fits_numbered table a b Done [] fits = tt
fits_numbered table a b (Pass t) (Fixed c ∷ items) fits = fits_numbered table a b t items fits
fits_numbered table a b (Pass t) (Free ∷ items) fits = fits_numbered table a b t items fits
fits_numbered table a b (Value v t) (Field n ∷ items) fits = (tt, fits_numbered table (suc a) b t items fits.1)
fits_numbered table a b (Choose k own t) (Child ks ∷ items) fits =
    (fits.0, fits_numbered table b (b + owns own) own (coding table k) fits.1, fits_numbered table a (b + (owns own + inners own)) t items fits.2)
fits_numbered table a b _ _ fits = absurd fits

-- ---- parts of a text without empty fields

wide_text : (V : Type 0) (bs : List ℕ) → AreWide {V = V} (map text_sym bs)
wide_text V [] = tt
wide_text V (b ∷ bs) = by (nat_eq b 32) (wide_text V bs)
  where
    by : (c : Bool) → AreWide {V = V} (map text_sym bs) → AreWide {V = V} (cond {A = Sym V} c Gap (Byte b) ∷ map text_sym bs)
    by true h = h
    by false h = h

wide_gap : (V : Type 0) (b : Bool) → AreWide {V = V} (gap b)
wide_gap V true = tt
wide_gap V false = tt

module _ {V : Type 0} where
  wide_both : (xs ys : List (Sym V)) → AreWide xs → AreWide ys → AreWide (xs ++ ys)
  wide_both [] ys h g = g
  wide_both (Byte c ∷ xs) ys h g = wide_both xs ys h g
  wide_both (Gap ∷ xs) ys h g = wide_both xs ys h g
  wide_both (Shown kind n v ∷ xs) ys h g = (h.0, wide_both xs ys h.1 g)

  abbrev WideFields : List (ℕ × V) → Type 0
  WideFields fields = AllByRecursion (λ f. 0 < f.0) fields

  wide_shown : (kind : Kind) (k : ℕ) (fields : List (ℕ × V)) → WideFields fields → AreWide (shown_at kind k fields)
  wide_shown kind k [] h = tt
  wide_shown kind zero (f ∷ fields) h = (h.0, tt)
  wide_shown kind (suc k) (f ∷ fields) h = wide_shown kind k fields h.1

  wide_part : (parts : List (List (Sym V))) (k : ℕ) → AllByRecursion AreWide parts → AreWide (slice_index_or parts k [])
  wide_part [] k h = tt
  wide_part (p ∷ parts) zero h = h.0
  wide_part (p ∷ parts) (suc k) h = wide_part parts k h.1

  module _ (fields : List (ℕ × V)) (parts : List (List (Sym V))) (wide : WideFields fields) (all : AllByRecursion AreWide parts) where
    wide_written : (c : Content) → AreWide (written_by fields parts c)
    wide_written (Text bs) = wide_text V bs
    wide_written (Number kind k) = wide_shown kind k fields wide
    wide_written (Part k) = wide_part parts k all

    wide_others : (es : List Element) → AreWide (others fields parts es)
    wide_others [] = tt
    wide_others (e ∷ es) = wide_both (gap e.joined) (written_by fields parts e.content ++ others fields parts es) (wide_gap V e.joined) (wide_both (written_by fields parts e.content) (others fields parts es) (wide_written e.content) (wide_others es))

    wide_assembled : (es : List Element) → AreWide (assemble fields parts es)
    wide_assembled [] = tt
    wide_assembled (e ∷ es) = wide_both (written_by fields parts e.content) (others fields parts es) (wide_written e.content) (wide_others es)

-- ---- trees

module _ (table : Table) (P : ℕ → Type 0) (good : (k : ℕ) → P k → AreGood P (coding table k)) {V : Type 0} where
  fields_wide : (t : Tree V) (items : List Item) → Fits AnyValue table t items → AreGood P items → AllByRecursion (λ f. 0 < f.0) (own_fields t items)
  fields_wide Done [] fits g = tt
  fields_wide (Pass t) (Fixed c ∷ items) fits g = fields_wide t items fits g
  fields_wide (Pass t) (Free ∷ items) fits g = fields_wide t items fits g
  fields_wide (Value v t) (Field n ∷ items) fits g = (g.0, fields_wide t items fits.1 g.1)
  fields_wide (Choose k own t) (Child ks ∷ items) fits g = fields_wide t items fits.2 g.1
  fields_wide _ _ fits g = absurd fits

  module _ (syntax : List (List Element)) where
    parts_wide : (t : Tree V) (items : List Item) → Fits AnyValue table t items → AreGood P items → AllByRecursion AreWide (parts_of table syntax t)
    parts_wide Done [] fits g = tt
    parts_wide (Pass t) (Fixed c ∷ items) fits g = parts_wide t items fits g
    parts_wide (Pass t) (Free ∷ items) fits g = parts_wide t items fits g
    parts_wide (Value v t) (Field n ∷ items) fits g = parts_wide t items fits.1 g.1
    parts_wide (Choose k own t) (Child ks ∷ items) fits g =
        let own_good = good k (g.0 k fits.0) in (
          wide_assembled (own_fields own (coding table k)) (parts_of table syntax own) (fields_wide own (coding table k) fits.1 own_good) (parts_wide own (coding table k) fits.1 own_good) (slice_index_or syntax k []),
          parts_wide t items fits.2 g.1,
        )
    parts_wide _ _ fits g = absurd fits

    pub symbols_wide : (k : ℕ) → P k → (t : Tree V) → Fits AnyValue table t (coding table k) → AreWide (symbols table syntax k t)
    symbols_wide k p t fits =
        wide_assembled (own_fields t (coding table k)) (parts_of table syntax t) (fields_wide t (coding table k) fits (good k p)) (parts_wide t (coding table k) fits (good k p)) (slice_index_or syntax k [])

    module _ (other : List (List Element)) (agree : (k : ℕ) → P k → slice_index_or syntax k [] ≡ slice_index_or other k []) where
      parts_same : (t : Tree V) (items : List Item) → Fits AnyValue table t items → AreGood P items → parts_of table syntax t ≡ parts_of table other t
      parts_same Done [] fits g = refl
      parts_same (Pass t) (Fixed c ∷ items) fits g = parts_same t items fits g
      parts_same (Pass t) (Free ∷ items) fits g = parts_same t items fits g
      parts_same (Value v t) (Field n ∷ items) fits g = parts_same t items fits.1 g.1
      parts_same (Choose k own t) (Child ks ∷ items) fits g =
          ap₂ (λ (x y : List (List (Sym V))). assemble (own_fields own (coding table k)) x (slice_index_or syntax k []) ∷ y) (parts_same own (coding table k) fits.1 (good k (g.0 k fits.0))) (parts_same t items fits.2 g.1)
          ∙ ap (λ (es : List Element). assemble (own_fields own (coding table k)) (parts_of table other own) es ∷ parts_of table other t) (agree k (g.0 k fits.0))
      parts_same _ _ fits g = absurd fits

      pub symbols_same : (k : ℕ) → P k → (t : Tree V) → Fits AnyValue table t (coding table k) → symbols table syntax k t ≡ symbols table other k t
      symbols_same k p t fits =
          ap₂ (λ (x : List (List (Sym V))) (es : List Element). assemble (own_fields t (coding table k)) x es) (parts_same t (coding table k) fits (good k p)) (agree k p)
