-- The parts of trees that are read from words.
use Rattle.std.proofs.Common.{◌≡◌, ℕ, zero, suc, ◌+◌, List, [], ◌∷◌, Some, map, refl, sym, ap, ◌∙◌, subst}
use Rattle.std.specs.Prelude.{slice_get, option_map}
use Rattle.std.proofs.lemmas.Option.{slice_get-map, same_Some}
use Rattle.instruction_trees.specs.Bits.{Has}
use Rattle.instruction_trees.specs.Trees.{Item, Fixed, Free, Field, Child, Table, coding, Tree, Done, Pass, Value, Choose, Fits, IsBelow, bits, form, size, placed, relabel, slice, tree_at}
use Rattle.instruction_trees.specs.Values.{own_values}
use Rattle.instruction_trees.proofs.Relabelled.{placed_relabel}
use Rattle.instruction_trees.proofs.Trees.{has_only}
use Rattle.tree_fields.specs.Children.{own_children, IsRead, IsReadChild}

module _ {V U : Type 0} (f : V → U) where
  pub values_mapped : (t : Tree V) → own_values (relabel f t) ≡ map f (own_values t)
  values_mapped Done = refl
  values_mapped (Pass t) = values_mapped t
  values_mapped (Value v t) = ap (λ (vs : List U). f v ∷ vs) (values_mapped t)
  values_mapped (Choose k own t) = values_mapped t

  abbrev pub mapped : ℕ × Tree V → ℕ × Tree U
  mapped c = (c.0, relabel f c.1)

  pub children_mapped : (t : Tree V) → own_children (relabel f t) ≡ map mapped (own_children t)
  children_mapped Done = refl
  children_mapped (Pass t) = children_mapped t
  children_mapped (Value v t) = children_mapped t
  children_mapped (Choose k own t) = ap (λ (cs : List (ℕ × Tree U)). (k, relabel f own) ∷ cs) (children_mapped t)

module _ (table : Table) (word : ℕ) where
  -- the place of a child
  record IsPlacedChild (low i k : ℕ) (t own : Tree ℕ) (items : List Item) : Type 0 where
    pub below : ℕ
    pub placed_at : slice_get (own_children (placed table low t items)) i ≡ Some (k, placed table below own (coding table k))
    pub fits : Fits IsBelow table own (coding table k)

  placed_child : (low : ℕ) (t : Tree ℕ) (items : List Item) → Fits IsBelow table t items → (i k : ℕ) (own : Tree ℕ) → slice_get (own_children t) i ≡ Some (k, own) → IsPlacedChild low i k t own items
  placed_child low Done [] fits i k own e = absurd (cc e)
  placed_child low (Pass t) (Fixed b ∷ items) fits i k own e = let h = placed_child low t items fits i k own e in record { below = h.below; placed_at = h.placed_at; fits = h.fits }
  placed_child low (Pass t) (Free ∷ items) fits i k own e = let h = placed_child low t items fits i k own e in record { below = h.below; placed_at = h.placed_at; fits = h.fits }
  placed_child low (Value v t) (Field n ∷ items) fits i k own e = let h = placed_child low t items fits.1 i k own e in record { below = h.below; placed_at = h.placed_at; fits = h.fits }
  placed_child low (Choose m o t) (Child ks ∷ items) fits zero k own e =
      let same : ◌≡◌ {A = ℕ × Tree ℕ} (m, o) (k, own) = same_Some {A = ℕ × Tree ℕ} (m, o) (k, own) e in
      subst (λ (c : ℕ × Tree ℕ). IsPlacedChild low zero c.0 (Choose m o t) c.1 (Child ks ∷ items)) same (record { below = low + size table t items; placed_at = refl; fits = fits.1 })
  placed_child low (Choose m o t) (Child ks ∷ items) fits (suc i) k own e = let h = placed_child low t items fits.2 i k own e in record { below = h.below; placed_at = h.placed_at; fits = h.fits }
  placed_child low _ _ fits i k own e = absurd fits

  pub whole_read : (ks : List ℕ) (o : ℕ) (own : Tree ℕ) → Fits IsBelow table (Choose o own Done) (Child ks ∷ []) → Has word (bits table (Choose o own Done) (Child ks ∷ [])) → IsRead table word o 0 own
  whole_read ks o own fits has =
      let same = has_only table word (Choose o own Done) (Child ks ∷ []) fits has in
      record { fits = fits.1; read = (cc same) ∙ ap (relabel (slice word)) (sym (placed_relabel (λ _. tt) table 0 own (coding table o))) }

  pub values_read : (o low : ℕ) (t : Tree ℕ) → IsRead table word o low t → own_values t ≡ map (slice word) (own_values (placed table low (form t) (coding table o)))
  values_read o low t is = ap (λ (u : Tree ℕ). own_values u) is.read ∙ values_mapped (slice word) (placed table low (form t) (coding table o))

  pub child_read : (o low i k : ℕ) (t own : Tree ℕ) → IsRead table word o low t → slice_get (own_children t) i ≡ Some (k, own) → IsReadChild table word o low i k t own
  child_read o low i k t own is e =
      let at = placed_child low t (coding table o) is.fits i k own e in
      let here = coding table o in
      let formed : placed table low (form t) here ≡ placed table low t here = placed_relabel (λ _. tt) table low t here in
      let inner : placed table at.below (form own) (coding table k) ≡ placed table at.below own (coding table k) = placed_relabel (λ _. tt) table at.below own (coding table k) in
      let there : slice_get (own_children (placed table low (form t) here)) i ≡ Some (k, placed table at.below (form own) (coding table k)) =
      ap (λ (q : Tree (ℕ × ℕ)). slice_get (own_children q) i) formed ∙ at.placed_at ∙ ap (λ (q : Tree (ℕ × ℕ)). Some (k, q)) (sym inner) in
      let read : Some (k, own) ≡ Some (k, tree_at table word at.below (form own) (coding table k)) =
      sym e
      ∙ ap (λ (u : Tree ℕ). slice_get (own_children u) i) is.read
      ∙ ap (λ (cs : List (ℕ × Tree ℕ)). slice_get cs i) (children_mapped (slice word) (placed table low (form t) here))
      ∙ slice_get-map (mapped (slice word)) (own_children (placed table low (form t) here)) i
      ∙ ap (option_map (mapped (slice word))) there in
      record {
        below = at.below;
        is_read = record { fits = at.fits; read = ap (λ (c : ℕ × Tree ℕ). c.1) (same_Some {A = ℕ × Tree ℕ} (k, own) (k, tree_at table word at.below (form own) (coding table k)) read) };
        placed_at = there;
      }
