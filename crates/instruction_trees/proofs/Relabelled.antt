-- A tree and its form have their bits, fields and operations at the same places.
use Rattle.std.proofs.Common.{◌≡◌, ℕ, suc, ◌+◌, ◌&&◌, Bool, false, List, [], ◌∷◌, ◌++◌, length, max, Some, None, refl, ap, ap₂, ◌∙◌}
use Rattle.std.specs.Prelude.{if◌then◌else◌}
use Rattle.instruction_trees.specs.Bits.{Frame}
use Rattle.instruction_trees.specs.Trees.{Item, Fixed, Free, Field, Child, Table, coding, Tree, Done, Pass, Value, Choose, Fits, AnyValue, form_bits, size, relabel, is_plain, placed}
use Rattle.instruction_trees.specs.Values.{owns, inners, numbered}
use Rattle.instruction_trees.specs.Forms.{height}
use Rattle.instruction_trees.proofs.Trees.{no_bits}

module _ {V U : Type 0} (f : V → U) where
  pub plain_relabel : (aliases : ℕ → Bool) (t : Tree V) → is_plain aliases (relabel f t) ≡ is_plain aliases t
  plain_relabel aliases Done = refl
  plain_relabel aliases (Pass t) = plain_relabel aliases t
  plain_relabel aliases (Value v t) = plain_relabel aliases t
  plain_relabel aliases (Choose k own t) = ap₂ (λ (a b : Bool). if aliases k then false else (a && b)) (plain_relabel aliases own) (plain_relabel aliases t)

  pub height_relabel : (t : Tree V) → height (relabel f t) ≡ height t
  height_relabel Done = refl
  height_relabel (Pass t) = height_relabel t
  height_relabel (Value v t) = height_relabel t
  height_relabel (Choose k own t) = ap₂ (λ (a b : ℕ). max (suc a) b) (height_relabel own) (height_relabel t)

  pub owns_relabel : (t : Tree V) → owns (relabel f t) ≡ owns t
  owns_relabel Done = refl
  owns_relabel (Pass t) = owns_relabel t
  owns_relabel (Value v t) = ap suc (owns_relabel t)
  owns_relabel (Choose k own t) = owns_relabel t

  pub inners_relabel : (t : Tree V) → inners (relabel f t) ≡ inners t
  inners_relabel Done = refl
  inners_relabel (Pass t) = inners_relabel t
  inners_relabel (Value v t) = inners_relabel t
  inners_relabel (Choose k own t) = ap₂ (λ (a b : ℕ). a + b) (ap₂ (λ (a b : ℕ). a + b) (owns_relabel own) (inners_relabel own)) (inners_relabel t)

  pub numbered_relabel : (a b : ℕ) (t : Tree V) → numbered a b (relabel f t) ≡ numbered a b t
  numbered_relabel a b Done = refl
  numbered_relabel a b (Pass t) = ap (λ (u : Tree ℕ). Pass u) (numbered_relabel a b t)
  numbered_relabel a b (Value v t) = ap (λ (u : Tree ℕ). Value a u) (numbered_relabel (suc a) b t)
  numbered_relabel a b (Choose k own t) =
      ap₂ (λ (x y : Tree ℕ). Choose k x y)
      (ap (λ (n : ℕ). numbered b (b + n) (relabel f own)) (owns_relabel own) ∙ numbered_relabel b (b + owns own) own)
      (ap₂ (λ (m n : ℕ). numbered a (b + (m + n)) (relabel f t)) (owns_relabel own) (inners_relabel own) ∙ numbered_relabel a (b + (owns own + inners own)) t)

  module _ (table : Table) where
    pub fits_relabel : (Ok : ℕ → V → Type 0) (t : Tree V) (items : List Item) → Fits Ok table t items → Fits AnyValue table (relabel f t) items
    fits_relabel Ok Done [] fits = tt
    fits_relabel Ok (Pass t) (Fixed b ∷ items) fits = fits_relabel Ok t items fits
    fits_relabel Ok (Pass t) (Free ∷ items) fits = fits_relabel Ok t items fits
    fits_relabel Ok (Value v t) (Field n ∷ items) fits = (tt, fits_relabel Ok t items fits.1)
    fits_relabel Ok (Choose k own t) (Child ks ∷ items) fits = (fits.0, fits_relabel Ok own (coding table k) fits.1, fits_relabel Ok t items fits.2)
    fits_relabel Ok _ _ fits = absurd fits

    pub bits_relabel : (t : Tree V) (items : List Item) → form_bits table (relabel f t) items ≡ form_bits table t items
    bits_relabel Done items = refl
    bits_relabel (Pass t) (Fixed b ∷ items) = ap (λ (fs : Frame). Some b ∷ fs) (bits_relabel t items)
    bits_relabel (Pass t) (Free ∷ items) = ap (λ (fs : Frame). None ∷ fs) (bits_relabel t items)
    bits_relabel (Value v t) (Field n ∷ items) = ap (λ (fs : Frame). no_bits n ++ fs) (bits_relabel t items)
    bits_relabel (Choose k own t) (Child ks ∷ items) = ap₂ (λ (fs gs : Frame). fs ++ gs) (bits_relabel own (coding table k)) (bits_relabel t items)
    bits_relabel _ _ = refl

    pub placed_relabel : (low : ℕ) (t : Tree V) (items : List Item) → placed table low (relabel f t) items ≡ placed table low t items
    placed_relabel low Done items = refl
    placed_relabel low (Pass t) (Fixed b ∷ items) = ap (λ (u : Tree (ℕ × ℕ)). Pass u) (placed_relabel low t items)
    placed_relabel low (Pass t) (Free ∷ items) = ap (λ (u : Tree (ℕ × ℕ)). Pass u) (placed_relabel low t items)
    placed_relabel low (Value v t) (Field n ∷ items) = ap₂ (λ (k : ℕ) (u : Tree (ℕ × ℕ)). Value (low + k, n) u) (ap (λ (fs : Frame). length fs) (bits_relabel t items)) (placed_relabel low t items)
    placed_relabel low (Choose k own t) (Child ks ∷ items) =
        ap₂ (λ (x y : Tree (ℕ × ℕ)). Choose k x y)
        (ap (λ (fs : Frame). placed table (low + length fs) (relabel f own) (coding table k)) (bits_relabel t items) ∙ placed_relabel (low + size table t items) own (coding table k))
        (placed_relabel low t items)
    placed_relabel low _ _ = refl
