-- Names in a coding, which stand in it once, and where.
use Rattle.std.proofs.Common.{◌≡◌, ◌≤◌, ◌+◌, ℕ, zero, suc, List, [], ◌∷◌, Option, None, Some, Bool, true, false, cond, length, refl, sym, ap, ◌∙◌, arith}
use Rattle.std.specs.Prelude.{slice_get, position}
use Rattle.std.specs.Option.{option_or, option_map_or, is_some}
use Rattle.std.specs.List.{sum_by}
use Rattle.std.specs.Cmp.Lexicographic.{nat_list_eq_equiv}
use Rattle.std.proofs.lemmas.List.Sums.{sum_by-cons}
use Rattle.std.proofs.lemmas.Slice.Eq.{bytes_eq-Decides}
use Rattle.lisa_tree.specs.declared.descriptions.CodingItem.{CodingItem}
use Rattle.lisa_tree.specs.declared.descriptions.CodingItem.TheVariants as items
use Rattle.lisa_tree.specs.Same.{same_name}
use Rattle.lisa_machine.specs.coded_names.Codings.{items_width, items_child, pattern_width}
use Rattle.form_texts.specs.coding_checks.Written.{item_count}
use Rattle.lisa_machine.specs.name_checks.Doubled.{earlier}
use Rattle.form_texts.specs.instruction_forms.Described.{labels}
use Rattle.form_texts.specs.Syntaxes.{child_names, place_in}
use Rattle.lisa_machine.proofs.Decoding.{position_is, position_there}

pub same_is : (n m : List ℕ) → same_name n m ≡ true → n ≡ m
same_is n m e = (bytes_eq-Decides n m).0 e

of_some : (n m : List ℕ) → Some m ≡ Some n → m ≡ n
of_some n m e = cc e

-- the place of a name is one where it stands
pub place_is : (n : List ℕ) (names : List (List ℕ)) (k : ℕ) → slice_get names k ≡ Some n → slice_get names (place_in n names) ≡ Some n
place_is n names k e = by (position (same_name n) names) refl
  where
    by : (r : Option ℕ) → position (same_name n) names ≡ r → slice_get names (place_in n names) ≡ Some n
    by None is = absurd (cc (is, position_is (same_name n) names k n e (nat_list_eq_equiv.refl n) (ap (λ (r : Option ℕ). earlier r k) is)))
    by (Some i) is =
        let x = position_there (same_name n) names i is in
        ap (λ (r : Option ℕ). slice_get names (option_map_or (λ j. j) r (length names))) is ∙ x.1 ∙ ap (λ (m : List ℕ). Some m) (sym (same_is n x.0 x.2))

-- ---- how often a name stands

module _ (n : List ℕ) where
  abbrev pub count : List CodingItem → ℕ
  count all = sum_by (item_count n) all

  one : (m : List ℕ) → Some m ≡ Some n → ◌≡◌ {A = ℕ} (cond (same_name n m) 1 0) 1
  one m e = ap {B = ℕ} (λ (z : List ℕ). cond (same_name n z) 1 0) (of_some n m e) ∙ ap {B = ℕ} (λ (b : Bool). cond b 1 0) (nat_list_eq_equiv.refl n)

  next : (item : CodingItem) (rest : List CodingItem) → count (item ∷ rest) ≡ item_count n item + count rest
  next item rest = sum_by-cons (item_count n) item rest

  pub label_counted : (all : List CodingItem) (j : ℕ) → slice_get (labels all) j ≡ Some n → 1 ≤ count all
  label_counted [] j e = absurd (cc e)
  label_counted (items.Bits p ∷ rest) j e = let i = label_counted rest j e in let s = next (items.Bits p) rest in omega (arith, i, s)
  label_counted (items.Child m ∷ rest) j e = let i = label_counted rest j e in let s = next (items.Child m) rest in omega (arith, i, s)
  label_counted (items.Field m p ∷ rest) zero e = let i = one m e in let s = next (items.Field m p) rest in omega (arith, i, s)
  label_counted (items.Field m p ∷ rest) (suc j) e = let i = label_counted rest j e in let s = next (items.Field m p) rest in omega (arith, i, s)

  pub child_counted : (all : List CodingItem) (j : ℕ) → slice_get (child_names all) j ≡ Some n → 1 ≤ count all
  child_counted [] j e = absurd (cc e)
  child_counted (items.Bits p ∷ rest) j e = let i = child_counted rest j e in let s = next (items.Bits p) rest in omega (arith, i, s)
  child_counted (items.Field m p ∷ rest) j e = let i = child_counted rest j e in let s = next (items.Field m p) rest in omega (arith, i, s)
  child_counted (items.Child m ∷ rest) zero e = let i = one m e in let s = next (items.Child m) rest in omega (arith, i, s)
  child_counted (items.Child m ∷ rest) (suc j) e = let i = child_counted rest j e in let s = next (items.Child m) rest in omega (arith, i, s)

  pub label_once : (all : List CodingItem) → count all ≤ 1 → (j k : ℕ) → slice_get (labels all) j ≡ Some n → slice_get (labels all) k ≡ Some n → j ≡ k
  label_once [] h j k e f = absurd (cc e)
  label_once (items.Bits p ∷ rest) h j k e f = let s = next (items.Bits p) rest in label_once rest (omega (arith, s, h)) j k e f
  label_once (items.Child m ∷ rest) h j k e f = let s = next (items.Child m) rest in label_once rest (omega (arith, s, h)) j k e f
  label_once (items.Field m p ∷ rest) h zero zero e f = refl
  label_once (items.Field m p ∷ rest) h zero (suc k) e f = let i = one m e in let s = next (items.Field m p) rest in let l = label_counted rest k f in absurd (omega (arith, i, s, l, h))
  label_once (items.Field m p ∷ rest) h (suc j) zero e f = let i = one m f in let s = next (items.Field m p) rest in let l = label_counted rest j e in absurd (omega (arith, i, s, l, h))
  label_once (items.Field m p ∷ rest) h (suc j) (suc k) e f = let s = next (items.Field m p) rest in ap suc (label_once rest (omega (arith, s, h)) j k e f)

  pub child_once : (all : List CodingItem) → count all ≤ 1 → (j k : ℕ) → slice_get (child_names all) j ≡ Some n → slice_get (child_names all) k ≡ Some n → j ≡ k
  child_once [] h j k e f = absurd (cc e)
  child_once (items.Bits p ∷ rest) h j k e f = let s = next (items.Bits p) rest in child_once rest (omega (arith, s, h)) j k e f
  child_once (items.Field m p ∷ rest) h j k e f = let s = next (items.Field m p) rest in child_once rest (omega (arith, s, h)) j k e f
  child_once (items.Child m ∷ rest) h zero zero e f = refl
  child_once (items.Child m ∷ rest) h zero (suc k) e f = let i = one m e in let s = next (items.Child m) rest in let l = child_counted rest k f in absurd (omega (arith, i, s, l, h))
  child_once (items.Child m ∷ rest) h (suc j) zero e f = let i = one m f in let s = next (items.Child m) rest in let l = child_counted rest j e in absurd (omega (arith, i, s, l, h))
  child_once (items.Child m ∷ rest) h (suc j) (suc k) e f = let s = next (items.Child m) rest in ap suc (child_once rest (omega (arith, s, h)) j k e f)

  -- no name stands for a field and for a child
  pub either_once : (all : List CodingItem) → count all ≤ 1 → (j k : ℕ) → slice_get (labels all) j ≡ Some n → slice_get (child_names all) k ≡ Some n → ⊥
  either_once [] h j k e f = cc e
  either_once (items.Bits p ∷ rest) h j k e f = let s = next (items.Bits p) rest in either_once rest (omega (arith, s, h)) j k e f
  either_once (items.Field m p ∷ rest) h zero k e f = let i = one m e in let s = next (items.Field m p) rest in let l = child_counted rest k f in absurd (omega (arith, i, s, l, h))
  either_once (items.Field m p ∷ rest) h (suc j) k e f = let s = next (items.Field m p) rest in either_once rest (omega (arith, s, h)) j k e f
  either_once (items.Child m ∷ rest) h j zero e f = let i = one m f in let s = next (items.Child m) rest in let l = label_counted rest j e in absurd (omega (arith, i, s, l, h))
  either_once (items.Child m ∷ rest) h j (suc k) e f = let s = next (items.Child m) rest in either_once rest (omega (arith, s, h)) j k e f

  -- ---- names that stand in a coding

  pub label_there : (all : List CodingItem) (w : ℕ) → items_width n all ≡ Some w → (k : ℕ) × (slice_get (labels all) k ≡ Some n)
  label_there [] w e = absurd (cc e)
  label_there (items.Bits p ∷ rest) w e = label_there rest w e
  label_there (items.Child m ∷ rest) w e = label_there rest w e
  label_there (items.Field m p ∷ rest) w e = by (same_name n m) refl (λ f. label_there rest w f)
    where
      by : (b : Bool) → same_name n m ≡ b → (items_width n rest ≡ Some w → (k : ℕ) × (slice_get (labels rest) k ≡ Some n)) → (k : ℕ) × (slice_get (m ∷ labels rest) k ≡ Some n)
      by true is later = (0, ap (λ (z : List ℕ). Some z) (sym (same_is n m is)))
      by false is later = let r = later (sym (ap (λ (b : Bool). option_or (cond b (Some (pattern_width p)) None) (items_width n rest)) is) ∙ e) in (suc r.0, r.1)

  pub child_there : (all : List CodingItem) → is_some (items_child n all) ≡ true → (k : ℕ) × (slice_get (child_names all) k ≡ Some n)
  child_there [] e = absurd (cc e)
  child_there (items.Bits p ∷ rest) e = child_there rest e
  child_there (items.Field m p ∷ rest) e = child_there rest e
  child_there (items.Child m ∷ rest) e = by (same_name n m) refl (λ f. child_there rest f)
    where
      by : (b : Bool) → same_name n m ≡ b → (is_some (items_child n rest) ≡ true → (k : ℕ) × (slice_get (child_names rest) k ≡ Some n)) → (k : ℕ) × (slice_get (m ∷ child_names rest) k ≡ Some n)
      by true is later = (0, ap (λ (z : List ℕ). Some z) (sym (same_is n m is)))
      by false is later = let r = later (sym (ap (λ (b : Bool). is_some (option_or (cond b (Some true) None) (items_child n rest))) is) ∙ e) in (suc r.0, r.1)

  pub child_coded : (all : List CodingItem) (j : ℕ) → slice_get (child_names all) j ≡ Some n → is_some (items_child n all) ≡ true
  child_coded [] j e = absurd (cc e)
  child_coded (items.Bits p ∷ rest) j e = child_coded rest j e
  child_coded (items.Field m p ∷ rest) j e = child_coded rest j e
  child_coded (items.Child m ∷ rest) zero e =
      ap (λ (z : List ℕ). is_some (option_or (cond (same_name n z) (Some true) None) (items_child n rest))) (of_some n m e)
      ∙ ap (λ (b : Bool). is_some (option_or (cond b (Some true) None) (items_child n rest))) (nat_list_eq_equiv.refl n)
  child_coded (items.Child m ∷ rest) (suc j) e = by (same_name n m) (child_coded rest j e)
    where
      by : (b : Bool) → is_some (items_child n rest) ≡ true → is_some (option_or (cond b (Some true) None) (items_child n rest)) ≡ true
      by true later = refl
      by false later = later
