-- A word is what it is with 0 at a field, and the field's value at its place.
use Rattle.std.proofs.Common.{◌≡◌, ℕ, zero, suc, ◌+◌, ◌*◌, ◌^◌, ◌<◌, List, [], ◌∷◌, length, get_or, set, sym, ap, ap₂, ◌∙◌, subst, arith}
use Rattle.std.proofs.Math.Pow.{pow_pos}
use Rattle.instruction_trees.specs.Bits.{Frame, pattern}
use Rattle.instruction_trees.specs.Trees.{Item, Fixed, Free, Field, Child, Table, coding, Tree, Done, Pass, Value, Choose, Form, Fits, IsBelow, AnyValue, form, form_bits, placed}
use Rattle.instruction_trees.specs.Values.{values, weigh, sum_of, AreWithin, none, more}
use Rattle.instruction_trees.specs.Words.{word_of}
use Rattle.instruction_trees.proofs.Relabelled.{bits_relabel, placed_relabel, fits_relabel}
use Rattle.instruction_trees.proofs.Weighed.{word_of_values}
use Rattle.instruction_trees.proofs.Placing.{values_within, values_fit}
use Rattle.tree_fields.specs.Placed.{places, IsEmptied}

sum_emptied : (vs : List ℕ) (ps : List (ℕ × ℕ)) (i : ℕ) → AreWithin vs ps → i < length vs → sum_of (weigh vs ps) ≡ sum_of (weigh (set vs i 0) ps) + get_or vs i 0 * 2 ^ (get_or ps i (0, 0)).0
sum_emptied [] [] i none h = absurd (omega (arith, h))
sum_emptied [] (p ∷ ps) i w h = elim w [ ]
sum_emptied (v ∷ vs) [] i w h = elim w [ ]
sum_emptied (v ∷ vs) (p ∷ ps) zero (more below w) h = omega arith
sum_emptied (v ∷ vs) (p ∷ ps) (suc i) (more below w) h = let e = sum_emptied vs ps i w (omega (arith, h)) in omega (arith, e)

emptied_within : (vs : List ℕ) (ps : List (ℕ × ℕ)) (i : ℕ) → AreWithin vs ps → AreWithin (set vs i 0) ps
emptied_within [] [] i none = none
emptied_within [] (p ∷ ps) i w = elim w [ ]
emptied_within (v ∷ vs) [] i w = elim w [ ]
emptied_within (v ∷ vs) (p ∷ ps) zero (more below w) = more (pow_pos p.1) w
emptied_within (v ∷ vs) (p ∷ ps) (suc i) (more below w) = more below (emptied_within vs ps i w)

from_form : (table : Table) (t : Tree ℕ) (items : List Item) → Fits AnyValue table (form t) items → Fits AnyValue table t items
from_form table Done [] fits = tt
from_form table (Pass t) (Fixed b ∷ items) fits = from_form table t items fits
from_form table (Pass t) (Free ∷ items) fits = from_form table t items fits
from_form table (Value v t) (Field n ∷ items) fits = (tt, from_form table t items fits.1)
from_form table (Choose k own t) (Child ks ∷ items) fits = (fits.0, from_form table own (coding table k) fits.1, from_form table t items fits.2)
from_form table _ _ fits = absurd fits

module _ (table : Table) (items : List Item) where
  -- a tree of the same form fits
  refits : (t u : Tree ℕ) → Fits IsBelow table t items → form u ≡ form t → Fits AnyValue table u items
  refits t u fits formed = from_form table u items (subst (λ (f : Form). Fits AnyValue table f items) (sym formed) (fits_relabel (λ _. tt) table IsBelow t items fits))

  pub adds_up : (i : ℕ) (t u : Tree ℕ) → Fits IsBelow table t items → IsEmptied i t u → i < length (values t) → word_of table t items ≡ word_of table u items + get_or (values t) i 0 * 2 ^ (get_or (places table t items) i (0, 0)).0
  adds_up i t u fits is h =
      let same_places : placed table 0 u items ≡ placed table 0 t items = sym (placed_relabel (λ _. tt) table 0 u items) ∙ ap (λ (f : Form). placed table 0 f items) is.formed ∙ placed_relabel (λ _. tt) table 0 t items in
      let same_bits : form_bits table u items ≡ form_bits table t items = sym (bits_relabel (λ _. tt) table u items) ∙ ap (λ (f : Form). form_bits table f items) is.formed ∙ bits_relabel (λ _. tt) table t items in
      let within = values_within table t items fits in
      let fit_u : Fits IsBelow table u items = values_fit table u items (refits t u fits is.formed)
      (subst (λ (vs : List ℕ). AreWithin vs (values (placed table 0 u items))) (sym is.valued)
      (subst (λ (q : Tree (ℕ × ℕ)). AreWithin (set (values t) i 0) (values q)) (sym same_places) (emptied_within (values t) (places table t items) i within))) in
      let word_u : word_of table u items ≡ pattern (form_bits table t items) + sum_of (weigh (set (values t) i 0) (places table t items)) =
      word_of_values table u items fit_u
      ∙ ap₂ (λ (fs : Frame) (q : Tree (ℕ × ℕ)). pattern fs + sum_of (weigh (values u) (values q))) same_bits same_places
      ∙ ap (λ (vs : List ℕ). pattern (form_bits table t items) + sum_of (weigh vs (places table t items))) is.valued in
      let word_t = word_of_values table t items fits in
      let sum = sum_emptied (values t) (places table t items) i within h in
      word_t ∙ ap (λ (k : ℕ). pattern (form_bits table t items) + k) sum ∙ omega (arith, word_u)
