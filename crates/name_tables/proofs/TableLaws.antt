-- Names that were put in, by their bytes.
use Rattle.std.proofs.Common.{◌≡◌, ℕ, Bool, true, false, cond, ◌||◌, List, Option, None, Some, refl, sym, ap, ◌∙◌}
use Rattle.std.specs.Prelude.{is_some}
use Rattle.std.specs.Option.{option_or}
use Rattle.std.proofs.lemmas.Slice.Eq.{bytes_eq-Decides}
use Rattle.std.specs.BTreeMap.{BTreeMap}
use Rattle.std.specs.BTreeMap as tree
use Rattle.std.specs.BTreeSet.{BTreeSet}
use Rattle.std.specs.BTreeSet as sorted
use Rattle.std.specs.Cmp.Lexicographic.{slice_cmp, nat_list_eq_equiv}
use Rattle.std.specs.Ordering.{is_eq, nat_cmp}
use Rattle.std.specs.Str.{bytes_eq}
use Rattle.std.proofs.lemmas.Map.Text.{is_eq-slice_cmp}
use Rattle.name_tables.specs.TableViews.{has_name, value_of}

-- a name that compares as equal has the same bytes
pub is_name : (name other : List ℕ) → is_eq (slice_cmp nat_cmp name other) ≡ bytes_eq other name
is_name name other = is_eq-slice_cmp name other ∙ nat_list_eq_equiv.symm name other

or_here : (a b : Bool) → cond a true b ≡ (a || b)
or_here true b = refl
or_here false b = refl

-- one more name in a set
pub entered : (set more : BTreeSet (List ℕ)) (name : List ℕ) → sorted.Updates (slice_cmp nat_cmp) set more name true
    → (n : List ℕ) → has_name more n ≡ (bytes_eq n name || has_name set n)
entered set more name updates n =
    updates.0 n ∙ ap (λ b. cond b true (has_name set n)) (is_name name n) ∙ or_here (bytes_eq n name) (has_name set n)

-- a value in a table
pub put_one : {V : Type 0} (table more : BTreeMap (List ℕ) V) (name : List ℕ) (value : Option V) → tree.Updates (slice_cmp nat_cmp) table more name value
    → (n : List ℕ) → value_of more n ≡ cond (bytes_eq n name) value (value_of table n)
put_one table more name value updates n = updates.0 n ∙ ap (λ b. cond b value (value_of table n)) (is_name name n)

-- ---- a value where there is none

module _ {V : Type 0} where
  same_text : (f : List ℕ → Option V) (n name : List ℕ) → bytes_eq n name ≡ true → f n ≡ f name
  same_text f n name same = ap f ((bytes_eq-Decides n name).0 same)

  -- a name that has a value keeps it
  pub keeps_value : (table : BTreeMap (List ℕ) V) (name : List ℕ) (value : V) → is_some (value_of table name) ≡ true
      → (n : List ℕ) → value_of table n ≡ option_or (value_of table n) (cond (bytes_eq n name) (Some value) None)
  keeps_value table name value there n = go (bytes_eq n name) refl (value_of table n) refl
    where
      go : (b : Bool) → bytes_eq n name ≡ b → (o : Option V) → value_of table n ≡ o → o ≡ option_or o (cond b (Some value) None)
      go b same (Some old) is = refl
      go true same None is = absurd (cc (sym there ∙ ap is_some (sym (same_text (value_of table) n name same) ∙ is)))
      go false apart None is = refl

  -- one that has none gets this one
  pub value_joins : (table more : BTreeMap (List ℕ) V) (name : List ℕ) (value : V) → is_some (value_of table name) ≡ false
      → ((n : List ℕ) → value_of more n ≡ cond (bytes_eq n name) (Some value) (value_of table n))
      → (n : List ℕ) → value_of more n ≡ option_or (value_of table n) (cond (bytes_eq n name) (Some value) None)
  value_joins table more name value absent put n = put n ∙ go (bytes_eq n name) refl (value_of table n) refl
    where
      go : (b : Bool) → bytes_eq n name ≡ b → (o : Option V) → value_of table n ≡ o → cond b (Some value) o ≡ option_or o (cond b (Some value) None)
      go true same (Some old) is = absurd (cc (sym absent ∙ ap is_some (sym (same_text (value_of table) n name same) ∙ is)))
      go true same None is = refl
      go false apart (Some old) is = refl
      go false apart None is = refl
