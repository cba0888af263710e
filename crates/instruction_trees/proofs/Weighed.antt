-- A tree's word from its values and places in preorder, and the trees of a form's words.
use Rattle.std.proofs.Common.{◌≡◌, ℕ, suc, ◌+◌, ◌*◌, ◌/◌, ◌^◌, List, [], ◌∷◌, ◌++◌, length, refl, sym, ap, ap₂, ◌∙◌}
use Rattle.std.proofs.lemmas.List.{length-append}
use Rattle.std.proofs.lemmas.Nat.{mod_below}
use Rattle.std.proofs.Math.Pow.{pow_pos}
use Rattle.instruction_trees.specs.Bits.{pattern}
use Rattle.instruction_trees.specs.Trees.{Item, Fixed, Free, Field, Child, Table, coding, Tree, Done, Pass, Value, Choose, Fits, IsBelow, AnyValue, Form, form, bits, form_bits, size, placed, tree_at}
use Rattle.instruction_trees.specs.Values.{own_values, inner_values, values, weigh, sum_of}
use Rattle.instruction_trees.proofs.Words.{weighed, whole_word}

weigh_append : (xs ys : List ℕ) (us vs : List (ℕ × ℕ)) → length xs ≡ length us → weigh (xs ++ ys) (us ++ vs) ≡ weigh xs us ++ weigh ys vs
weigh_append [] ys [] vs l = refl
weigh_append [] ys (u ∷ us) vs l = absurd cc
weigh_append (x ∷ xs) ys [] vs l = absurd cc
weigh_append (x ∷ xs) ys (u ∷ us) vs l = ap (λ (r : List ℕ). x * 2 ^ u.0 ∷ r) (weigh_append xs ys us vs (cc))

module _ (Ok : ℕ → ℕ → Type 0) (table : Table) where
  pub own_sizes : (low : ℕ) (t : Tree ℕ) (items : List Item) → Fits Ok table t items → length (own_values t) ≡ length (own_values (placed table low t items))
  own_sizes low Done [] fits = refl
  own_sizes low (Pass t) (Fixed b ∷ items) fits = own_sizes low t items fits
  own_sizes low (Pass t) (Free ∷ items) fits = own_sizes low t items fits
  own_sizes low (Value v t) (Field n ∷ items) fits = ap suc (own_sizes low t items fits.1)
  own_sizes low (Choose k own t) (Child ks ∷ items) fits = own_sizes low t items fits.2
  own_sizes low _ _ fits = absurd fits

  pub inner_sizes : (low : ℕ) (t : Tree ℕ) (items : List Item) → Fits Ok table t items → length (inner_values t) ≡ length (inner_values (placed table low t items))
  inner_sizes low Done [] fits = refl
  inner_sizes low (Pass t) (Fixed b ∷ items) fits = inner_sizes low t items fits
  inner_sizes low (Pass t) (Free ∷ items) fits = inner_sizes low t items fits
  inner_sizes low (Value v t) (Field n ∷ items) fits = inner_sizes low t items fits.1
  inner_sizes low (Choose k own t) (Child ks ∷ items) fits =
      let up = low + size table t items in
      let p = placed table up own (coding table k) in
      let q = placed table low t items in
      length-append (own_values own ++ inner_values own) (inner_values t)
      ∙ ap₂ (λ (x y : ℕ). x + y) (length-append (own_values own) (inner_values own) ∙ ap₂ (λ (x y : ℕ). x + y) (own_sizes up own (coding table k) fits.1) (inner_sizes up own (coding table k) fits.1) ∙ sym (length-append (own_values p) (inner_values p))) (inner_sizes low t items fits.2)
      ∙ sym (length-append (own_values p ++ inner_values p) (inner_values q))
  inner_sizes low _ _ fits = absurd fits

module _ (table : Table) where
  own_weighed : (low : ℕ) (t : Tree ℕ) (items : List Item) → Fits IsBelow table t items → own_values (weighed table low t items) ≡ weigh (own_values t) (own_values (placed table low t items))
  own_weighed low Done [] fits = refl
  own_weighed low (Pass t) (Fixed b ∷ items) fits = own_weighed low t items fits
  own_weighed low (Pass t) (Free ∷ items) fits = own_weighed low t items fits
  own_weighed low (Value v t) (Field n ∷ items) fits = ap (λ (r : List ℕ). v * 2 ^ (low + size table t items) ∷ r) (own_weighed low t items fits.1)
  own_weighed low (Choose k own t) (Child ks ∷ items) fits = own_weighed low t items fits.2
  own_weighed low _ _ fits = absurd fits

  inner_weighed : (low : ℕ) (t : Tree ℕ) (items : List Item) → Fits IsBelow table t items → inner_values (weighed table low t items) ≡ weigh (inner_values t) (inner_values (placed table low t items))
  inner_weighed low Done [] fits = refl
  inner_weighed low (Pass t) (Fixed b ∷ items) fits = inner_weighed low t items fits
  inner_weighed low (Pass t) (Free ∷ items) fits = inner_weighed low t items fits
  inner_weighed low (Value v t) (Field n ∷ items) fits = inner_weighed low t items fits.1
  inner_weighed low (Choose k own t) (Child ks ∷ items) fits =
      let up = low + size table t items in
      let p = placed table up own (coding table k) in
      let q = placed table low t items in
      let o = own_sizes IsBelow table up own (coding table k) fits.1 in
      let i = inner_sizes IsBelow table up own (coding table k) fits.1 in
      let l : length (own_values own ++ inner_values own) ≡ length (own_values p ++ inner_values p) = length-append (own_values own) (inner_values own) ∙ ap₂ (λ (x y : ℕ). x + y) o i ∙ sym (length-append (own_values p) (inner_values p)) in
      ap₂ (λ (x y : List ℕ). x ++ y) (ap₂ (λ (x y : List ℕ). x ++ y) (own_weighed up own (coding table k) fits.1) (inner_weighed up own (coding table k) fits.1) ∙ sym (weigh_append (own_values own) (inner_values own) (own_values p) (inner_values p) o)) (inner_weighed low t items fits.2)
      ∙ sym (weigh_append (own_values own ++ inner_values own) (inner_values t) (own_values p ++ inner_values p) (inner_values q) l)
  inner_weighed low _ _ fits = absurd fits

  -- the word of a tree, from its values and places in preorder
  pub word_of_values : (t : Tree ℕ) (items : List Item) → Fits IsBelow table t items → pattern (bits table t items) ≡ pattern (form_bits table t items) + sum_of (weigh (values t) (values (placed table 0 t items)))
  word_of_values t items fits =
      whole_word table t items fits
      ∙ ap (λ (l : List ℕ). pattern (form_bits table t items) + sum_of l) (ap₂ (λ (x y : List ℕ). x ++ y) (own_weighed 0 t items fits) (inner_weighed 0 t items fits)
      ∙ sym (weigh_append (own_values t) (inner_values t) (own_values (placed table 0 t items)) (inner_values (placed table 0 t items)) (own_sizes IsBelow table 0 t items fits)))

-- ---- what is read is a tree of the form

module _ {V : Type 0} (table : Table) (w : ℕ) where
  pub read_fits : (low : ℕ) (t : Tree V) (items : List Item) → Fits AnyValue table t items → Fits IsBelow table (tree_at table w low t items) items
  read_fits low Done [] fits = tt
  read_fits low (Pass t) (Fixed b ∷ items) fits = read_fits low t items fits
  read_fits low (Pass t) (Free ∷ items) fits = read_fits low t items fits
  read_fits low (Value v t) (Field n ∷ items) fits = (mod_below (w / 2 ^ (low + size table t items)) (2 ^ n) (pow_pos n), read_fits low t items fits.1)
  read_fits low (Choose k own t) (Child ks ∷ items) fits = (fits.0, read_fits (low + size table t items) own (coding table k) fits.1, read_fits low t items fits.2)
  read_fits low _ _ fits = absurd fits

  pub read_form : (low : ℕ) (t : Tree V) (items : List Item) → Fits AnyValue table t items → form (tree_at table w low t items) ≡ form t
  read_form low Done [] fits = refl
  read_form low (Pass t) (Fixed b ∷ items) fits = ap (λ (u : Form). Pass u) (read_form low t items fits)
  read_form low (Pass t) (Free ∷ items) fits = ap (λ (u : Form). Pass u) (read_form low t items fits)
  read_form low (Value v t) (Field n ∷ items) fits = ap (λ (u : Form). Value tt u) (read_form low t items fits.1)
  read_form low (Choose k own t) (Child ks ∷ items) fits = ap₂ (λ (x y : Form). Choose k x y) (read_form (low + size table t items) own (coding table k) fits.1) (read_form low t items fits.2)
  read_form low _ _ fits = absurd fits
