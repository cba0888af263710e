-- Items with their places are those of a state.
use Rattle.std.proofs.Common.{◌≡◌, ◌&&◌, ◌||◌, ℕ, zero, suc, Bool, true, false, cond, not, List, [], ◌∷◌, Some, map, nat_eq, refl, sym, ap, ap₂, ◌∙◌, arith, subst}
use Rattle.std.specs.Prelude.{slice_get, fold, zip, if◌then◌else◌}
use Rattle.std.specs.List.{list_any}
use Rattle.std.proofs.lemmas.Bool.{eq-eqb, eqb-true}
use Rattle.lisa_tree.specs.Descriptions.{DescriptionTree}
use Rattle.item_layouts.specs.declared.place.ItemPlace.{ItemPlace}
use Rattle.item_layouts.specs.declared.place.ItemPlace.TheVariants.{Register, Field, Word, Bit}
use Rattle.item_layouts.specs.Layouts.{ItemValues, HasPlace, item_places, value_at, item_values}
use Rattle.item_layouts.proofs.Listed.{listed}
use Rattle.pipeline_time.specs.Bits.{Hardware}
use Rattle.lisa_meaning.specs.Moments.{Contents}
use Rattle.lisa_meaning.specs.States.{layout_of, values_of}
use Rattle.lisa_meaning.specs.Showing.{HasItems}
use Rattle.pipeline_states.specs.Taken.{is_bit, is_word, bit_in, word_in}

-- ---- tests

and_none : (b : Bool) → (b && false) ≡ false
and_none true = refl
and_none false = refl

share : (b x y p q : Bool) → p ≡ (b && x) → q ≡ (b && y) → (p || q) ≡ (b && (x || y))
share true true y p q e f = cc (e, f)
share true false y p q e f = cc (e, f)
share false x y p q e f = cc (e, f)

set_bit : (b : Bool) → not (nat_eq (cond b 1 0) 0) ≡ b
set_bit true = refl
set_bit false = refl

module _ (v : ItemValues) where
  -- ---- bits

  abbrev One : ℕ → ℕ → ItemPlace → Type 0
  One s k p = (is_bit s k p && not (nat_eq (value_at v p) 0)) ≡ (v.bit s k && is_bit s k p)

  bit_is : (s k : ℕ) (p : ItemPlace) → One s k p
  bit_is s k (Register j) = sym (and_none (v.bit s k))
  bit_is s k (Field t f) = sym (and_none (v.bit s k))
  bit_is s k (Word t) = sym (and_none (v.bit s k))
  bit_is s k (Bit t j) = by (nat_eq t s) refl (nat_eq j k) refl
    where
      all : (b : Bool) → (b && true) ≡ b
      all true = refl
      all false = refl

      by : (b : Bool) → nat_eq t s ≡ b → (c : Bool) → nat_eq j k ≡ c → One s k (Bit t j)
      by false e c f = let left : (nat_eq t s && nat_eq j k) ≡ false = cc e in cc (left, and_none (v.bit s k))
      by true e false f = let left : (nat_eq t s && nat_eq j k) ≡ false = cc (e, f) in cc (left, and_none (v.bit s k))
      by true e true f =
          let left : (nat_eq t s && nat_eq j k) ≡ true = cc (e, f) in
          let same : v.bit t j ≡ v.bit s k = ap₂ v.bit (eqb-true t s e) (eqb-true j k f) in
          let value : not (nat_eq (value_at v (Bit t j)) 0) ≡ v.bit s k = set_bit (v.bit t j) ∙ same in
          ap₂ (λ (x y : Bool). x && y) left value ∙ sym (ap (λ (x : Bool). v.bit s k && x) left ∙ all (v.bit s k))

  bits_are : (s k : ℕ) (places : List ItemPlace) → bit_in places (map (value_at v) places) s k ≡ (v.bit s k && list_any (is_bit s k) places)
  bits_are s k [] = sym (and_none (v.bit s k))
  bits_are s k (p ∷ rest) =
      share (v.bit s k) (is_bit s k p) (list_any (is_bit s k) rest) (is_bit s k p && not (nat_eq (value_at v p) 0)) (bit_in rest (map (value_at v) rest) s k) (bit_is s k p) (bits_are s k rest)

  -- ---- words

  abbrev or_word : ℕ → ℕ → ItemPlace × ℕ → ℕ
  or_word s word one = if is_word s one.0 then one.1 else word

  words_from : (s so_far : ℕ) (places : List ItemPlace) → fold (or_word s) so_far (zip places (map (value_at v) places)) ≡ cond (list_any (is_word s) places) (v.word s) so_far
  words_from s so_far [] = refl
  words_from s so_far (p ∷ rest) = by p (is_word s p) refl (λ (w : ℕ). words_from s w rest)
    where
      word_of : (q : ItemPlace) → is_word s q ≡ true → value_at v q ≡ v.word s
      word_of (Register j) e = absurd (cc e)
      word_of (Field t f) e = absurd (cc e)
      word_of (Bit t j) e = absurd (cc e)
      word_of (Word t) e = ap v.word (eqb-true t s e)

      same : (b : Bool) (w : ℕ) → cond b w w ≡ w
      same true w = refl
      same false w = refl

      by : (q : ItemPlace) (b : Bool) → is_word s q ≡ b → ((w : ℕ) → fold (or_word s) w (zip rest (map (value_at v) rest)) ≡ cond (list_any (is_word s) rest) (v.word s) w)
          → fold (or_word s) so_far (zip (q ∷ rest) (map (value_at v) (q ∷ rest))) ≡ cond (list_any (is_word s) (q ∷ rest)) (v.word s) so_far
      by q true e more =
          let next : or_word s so_far (q, value_at v q) ≡ v.word s = ap (λ (b : Bool). if b then value_at v q else so_far) e ∙ word_of q e in
          let right : list_any (is_word s) (q ∷ rest) ≡ true = ap (λ (b : Bool). b || list_any (is_word s) rest) e in
          more (or_word s so_far (q, value_at v q))
          ∙ ap (λ (w : ℕ). cond (list_any (is_word s) rest) (v.word s) w) next
          ∙ same (list_any (is_word s) rest) (v.word s)
          ∙ sym (ap (λ (b : Bool). cond b (v.word s) so_far) right)
      by q false e more =
          let next : or_word s so_far (q, value_at v q) ≡ so_far = ap (λ (b : Bool). if b then value_at v q else so_far) e in
          let right : list_any (is_word s) (q ∷ rest) ≡ list_any (is_word s) rest = ap (λ (b : Bool). b || list_any (is_word s) rest) e in
          more (or_word s so_far (q, value_at v q))
          ∙ ap (λ (w : ℕ). cond (list_any (is_word s) rest) (v.word s) w) next
          ∙ sym (ap (λ (b : Bool). cond b (v.word s) so_far) right)

  words_are : (s : ℕ) (places : List ItemPlace) → word_in places (map (value_at v) places) s ≡ cond (list_any (is_word s) places) (v.word s) 0
  words_are s places = words_from s 0 places

-- ---- places that are listed

any_at : (test : ItemPlace → Bool) (places : List ItemPlace) (i : ℕ) (p : ItemPlace) → slice_get places i ≡ Some p → test p ≡ true → list_any test places ≡ true
any_at test [] i p is passed = absurd (cc is)
any_at test (q ∷ rest) zero p is passed = let same : q ≡ p = cc is in let here : test q ≡ true = ap test same ∙ passed in cc here
any_at test (q ∷ rest) (suc i) p is passed = by (test q) (any_at test rest i p is passed)
  where
    by : (b : Bool) → list_any test rest ≡ true → (b || list_any test rest) ≡ true
    by true e = refl
    by false e = e

module _ (d : DescriptionTree) (hard : Hardware Contents) (has : HasItems d hard) where
  pub bits_taken : (s k : ℕ) → bit_in (item_places (layout_of d)) (item_values (layout_of d) (values_of hard)) s k ≡ hard.bits (suc s) k
  bits_taken s k = bits_are (values_of hard) s k (item_places (layout_of d)) ∙ by (hard.bits (suc s) k) refl
    where
      by : (b : Bool) → hard.bits (suc s) k ≡ b → (hard.bits (suc s) k && list_any (is_bit s k) (item_places (layout_of d))) ≡ hard.bits (suc s) k
      by false e = let f : (false && list_any (is_bit s k) (item_places (layout_of d))) ≡ false = refl in cc (e, f)
      by true e =
          let place = has.bits (suc s) k e in
          let same : place.0 ≡ s = let l = place.1 in omega (arith, l) in
          let here = subst (λ (t : ℕ). HasPlace (layout_of d) (Bit t k)) same place.2 in
          let at = (listed (layout_of d) (Bit s k)).0 here in
          let test : is_bit s k (Bit s k) ≡ true = cc (eq-eqb s s refl, eq-eqb k k refl) in
          let any = any_at (is_bit s k) (item_places (layout_of d)) at.0 (Bit s k) at.1 test in
          cc (e, any)

  pub words_taken : (s : ℕ) → word_in (item_places (layout_of d)) (item_values (layout_of d) (values_of hard)) s ≡ hard.words (suc s)
  words_taken s = words_are (values_of hard) s (item_places (layout_of d)) ∙ by (hard.words (suc s)) refl
    where
      none : (b : Bool) → hard.words (suc s) ≡ 0 → cond b (hard.words (suc s)) 0 ≡ hard.words (suc s)
      none true e = refl
      none false e = sym e

      by : (w : ℕ) → hard.words (suc s) ≡ w → cond (list_any (is_word s) (item_places (layout_of d))) (hard.words (suc s)) 0 ≡ hard.words (suc s)
      by zero e = none (list_any (is_word s) (item_places (layout_of d))) e
      by (suc w) e =
          let place = has.words (suc s) (λ z. absurd (omega (arith, z, e))) in
          let same : place.0 ≡ s = let l = place.1 in omega (arith, l) in
          let here = subst (λ (t : ℕ). HasPlace (layout_of d) (Word t)) same place.2 in
          let at = (listed (layout_of d) (Word s)).0 here in
          let test : is_word s (Word s) ≡ true = eq-eqb s s refl in
          let any = any_at (is_word s) (item_places (layout_of d)) at.0 (Word s) at.1 test in
          cc any
