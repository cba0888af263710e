-- Values that are in range where they are written are within their fields, where each field is written.
use Rattle.std.proofs.Common.{◌≡◌, ◌<◌, ◌+◌, ◌^◌, ℕ, List, [], ◌∷◌, map, refl, sym, ap, ◌∙◌, subst, arith}
use Rattle.instruction_trees.specs.Trees.{Table, Item, Fixed, Free, Field, Child, Tree, Done, Pass, Value, Choose, Form, In, here, there, Fits, IsBelow, AnyValue, coding, form, relabel, placed, size, slice}
use Rattle.instruction_trees.specs.Values.{values, numbered, owns, inners, filled}
use Rattle.instruction_trees.proofs.FormWords.{read_is}
use Rattle.instruction_trees.proofs.Numbering.{form_relabel}
use Rattle.lisa_forms.proofs.form_patterns_proofs.Filling.{nth, filled_with}
use Rattle.instruction_texts.specs.Symbols.{Element, Sym, Byte, Gap, Shown, shown_values, sym_map, symbols, AreWide}
use Rattle.instruction_texts.specs.Texts.{InRange, IsWritten, form_symbols}
use Rattle.instruction_texts.proofs.Relabelled.{symbols_as}
use Rattle.lisa_syntax.proofs.Numbers.{AreSo, so_symbols, IsOneOf, fits_numbers}

-- ---- fitting trees

module _ (table : Table) where
  -- a tree fits with what a function gives for its values
  pub fits_before : {V U : Type 0} (Ok : ℕ → U → Type 0) (f : V → U) (t : Tree V) (items : List Item) → Fits Ok table (relabel f t) items → Fits (λ n v. Ok n (f v)) table t items
  fits_before Ok f Done [] fits = tt
  fits_before Ok f (Pass t) (Fixed b ∷ items) fits = fits_before Ok f t items fits
  fits_before Ok f (Pass t) (Free ∷ items) fits = fits_before Ok f t items fits
  fits_before Ok f (Value v t) (Field n ∷ items) fits = (fits.0, fits_before Ok f t items fits.1)
  fits_before Ok f (Choose k own t) (Child ks ∷ items) fits = (fits.0, fits_before Ok f own (coding table k) fits.1, fits_before Ok f t items fits.2)
  fits_before Ok f _ _ fits = absurd fits

  pub fits_behind : {V U : Type 0} (Ok : ℕ → U → Type 0) (f : V → U) (t : Tree V) (items : List Item) → Fits (λ n v. Ok n (f v)) table t items → Fits Ok table (relabel f t) items
  fits_behind Ok f Done [] fits = tt
  fits_behind Ok f (Pass t) (Fixed b ∷ items) fits = fits_behind Ok f t items fits
  fits_behind Ok f (Pass t) (Free ∷ items) fits = fits_behind Ok f t items fits
  fits_behind Ok f (Value v t) (Field n ∷ items) fits = (fits.0, fits_behind Ok f t items fits.1)
  fits_behind Ok f (Choose k own t) (Child ks ∷ items) fits = (fits.0, fits_behind Ok f own (coding table k) fits.1, fits_behind Ok f t items fits.2)
  fits_behind Ok f _ _ fits = absurd fits

  pub fits_both : {V : Type 0} (A B C : ℕ → V → Type 0) → ((n : ℕ) (v : V) → A n v → B n v → C n v) → (t : Tree V) (items : List Item) → Fits A table t items → Fits B table t items → Fits C table t items
  fits_both A B C both Done [] a b = tt
  fits_both A B C both (Pass t) (Fixed c ∷ items) a b = fits_both A B C both t items a b
  fits_both A B C both (Pass t) (Free ∷ items) a b = fits_both A B C both t items a b
  fits_both A B C both (Value v t) (Field n ∷ items) a b = (both n v a.0 b.0, fits_both A B C both t items a.1 b.1)
  fits_both A B C both (Choose k own t) (Child ks ∷ items) a b = (a.0, fits_both A B C both own (coding table k) a.1 b.1, fits_both A B C both t items a.2 b.2)
  fits_both A B C both _ _ a b = absurd a

  -- ---- how wide the field of each number is

  abbrev IsWidth : ℕ → ℕ → Type 0
  IsWidth n v = v ≡ n

  fits_widths : {V : Type 0} (low : ℕ) (t : Tree V) (items : List Item) → Fits AnyValue table t items → Fits IsWidth table (relabel (λ p. p.1) (placed table low t items)) items
  fits_widths low Done [] fits = tt
  fits_widths low (Pass t) (Fixed b ∷ items) fits = fits_widths low t items fits
  fits_widths low (Pass t) (Free ∷ items) fits = fits_widths low t items fits
  fits_widths low (Value v t) (Field n ∷ items) fits = (refl, fits_widths low t items fits.1)
  fits_widths low (Choose k own t) (Child ks ∷ items) fits = (fits.0, fits_widths (low + size table t items) own (coding table k) fits.1, fits_widths low t items fits.2)
  fits_widths low _ _ fits = absurd fits

  module _ (t : Form) (items : List Item) (fits : Fits AnyValue table t items) where
    abbrev widths : Tree ℕ
    widths = relabel (λ p. p.1) (placed table 0 t items)

    widths_form : form widths ≡ t
    widths_form = form_relabel (λ p. p.1) (placed table 0 t items) ∙ sym (form_relabel (slice 0) (placed table 0 t items)) ∙ read_is table items t 0 fits

    -- the width of the field of a number
    abbrev pub width_of : ℕ → ℕ
    width_of = nth (values widths)

    widths_are : filled width_of t ≡ widths
    widths_are = ap (λ (f : Form). filled width_of f) (sym widths_form) ∙ filled_with widths (values widths) refl

    abbrev pub HasWidth : ℕ → ℕ → Type 0
    HasWidth n i = width_of i ≡ n

    pub numbers_fit : Fits HasWidth table (numbered 0 (owns t) t) items
    numbers_fit = fits_before IsWidth width_of (numbered 0 (owns t) t) items (subst (λ (u : Tree ℕ). Fits IsWidth table u items) (sym widths_are) (fits_widths 0 t items fits))

-- ---- what is written

-- each value that is written is below the power of its field's width
shown_below : (f w : ℕ → ℕ) (s : List (Sym ℕ)) → AreSo (λ n i. w i ≡ n) s → InRange (map (sym_map f) s) → (i : ℕ) → In i (shown_values s) → f i < 2 ^ w i
shown_below f w [] so range i at = elim at [ ]
shown_below f w (Byte c ∷ s) so range i at = shown_below f w s so range i at
shown_below f w (Gap ∷ s) so range i at = shown_below f w s so range i at
shown_below f w (Shown kind n u ∷ s) so range i (here) = subst (λ (m : ℕ). f u < 2 ^ m) (sym so.0) range.1
shown_below f w (Shown kind n u ∷ s) so range i (there at) = shown_below f w s so.1 range.2 i at

module _ (table : Table) (syntax : List (List Element)) (o : ℕ) (t : Form) (fits : Fits AnyValue table t (coding table o)) (f : ℕ → ℕ) where
  pub written_fits : IsWritten table syntax o t → InRange (symbols table syntax o (filled f t)) → Fits IsBelow table (filled f t) (coding table o)
  written_fits covered range =
      let n = numbered 0 (owns t) t in
      let count = owns t + inners t in
      let w = width_of table t (coding table o) fits in
      let own = numbers_fit table t (coding table o) fits in
      let so : AreSo (λ m i. w i ≡ m) (symbols table syntax o n) = so_symbols (λ m i. w i ≡ m) table syntax o n own in
      let mapped : InRange (map (sym_map f) (symbols table syntax o n)) = subst (λ (s : List (Sym ℕ)). InRange s) (symbols_as f table syntax o n) range in
      let below : (i : ℕ) → i < count → f i < 2 ^ w i = λ i h. shown_below f w (symbols table syntax o n) so mapped i (covered i h) in
      fits_behind table IsBelow f n (coding table o)
      (fits_both table (λ m i. w i ≡ m) (IsOneOf count) (λ m i. f i < 2 ^ m) (λ m i e h. subst (λ (x : ℕ). f i < 2 ^ x) e (below i h)) n (coding table o) own
      (fits_numbers table count 0 (owns t) t (coding table o) fits (omega arith) (omega arith)))

  -- values that are within their fields are in range where they are written
  ranged : (s : List (Sym ℕ)) → AreWide s → AreSo IsBelow (map (sym_map f) s) → InRange (map (sym_map f) s)
  ranged [] wide so = tt
  ranged (Byte c ∷ s) wide so = ranged s wide so
  ranged (Gap ∷ s) wide so = ranged s wide so
  ranged (Shown kind n u ∷ s) wide so = (wide.0, so.0, ranged s wide.1 so.1)

  pub fits_range : AreWide (form_symbols table syntax o t) → Fits IsBelow table (filled f t) (coding table o) → InRange (symbols table syntax o (filled f t))
  fits_range wide below =
      let n = numbered 0 (owns t) t in
      let same = symbols_as f table syntax o n in
      subst (λ (s : List (Sym ℕ)). InRange s) (sym same) (ranged (symbols table syntax o n) wide (subst (λ (s : List (Sym ℕ)). AreSo IsBelow s) same (so_symbols IsBelow table syntax o (filled f t) below)))
