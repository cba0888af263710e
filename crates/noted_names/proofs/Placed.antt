-- Names with their first places.
use Rattle.std.proofs.Common.{◌≡◌, ◌∙◌, ℕ, List, Option, None, Some, Bool, true, false, cond, refl, sym, ap, subst}
use Rattle.std.specs.Prelude.{Result, Ok, Err, OnOk, OnErr, IsSome}
use Rattle.std.specs.Option.{option_or, option_and_then}
use Rattle.std.specs.BTreeMap.{BTreeMap}
use Rattle.std.specs.Str.{bytes_eq}
use Rattle.std.proofs.lemmas.Option.{same_Some}
use Rattle.name_tables.specs.TableViews.{value_of}
use Rattle.noted_names.specs.declared.places.Places.{Places}
use Rattle.noted_names.specs.Memos.{Adds, IsSame, places}
use Rattle.noted_names.specs.Places.{HavePlaces}

abbrev first_of : Option Places → Option ℕ
first_of o = option_and_then (λ (found : Places). found.first) o

abbrev one : Bool → ℕ → Option Places
one b place = cond b (Some (places (Some place) None)) None

pub none_placed : (table : BTreeMap (List ℕ) Places) → ((n : List ℕ) → value_of table n ≡ None) → HavePlaces table
none_placed table none n found at = absurd (cc (sym (none n) ∙ at))

pub no_place : (table : BTreeMap (List ℕ) Places) (n : List ℕ) → value_of table n ≡ None → first_of (value_of table n) ≡ None
no_place table n none = ap first_of none

still_placed : (old new : BTreeMap (List ℕ) Places) → HavePlaces old → IsSame old new → HavePlaces new
still_placed old new have same n found at = have n found (sym (same n) ∙ at)

more_placed : (old new : BTreeMap (List ℕ) Places) (name : List ℕ) (place : ℕ) → HavePlaces old → Adds old new name (places (Some place) None) → HavePlaces new
more_placed old new name place have adds n found at = go (value_of old n) refl (bytes_eq n name) (sym (adds n) ∙ at)
  where
    go : (o : Option Places) → value_of old n ≡ o → (b : Bool) → option_or o (one b place) ≡ Some found → IsSome found.first
    go (Some p) there b is = have n found (there ∙ is)
    go None there true is = subst (λ (p : Places). IsSome p.first) (same_Some (places (Some place) None) found is) refl
    go None there false is = absurd (cc is)

-- after a name was noted, or after want of memory
pub placed_after : {T E : Type 0} (old new : BTreeMap (List ℕ) Places) (name : List ℕ) (place : ℕ) (result : Result T E) → HavePlaces old
    → OnOk result (Adds old new name (places (Some place) None)) → OnErr result (IsSame old new) → HavePlaces new
placed_after old new name place (Ok x) have adds same = more_placed old new name place have adds
placed_after old new name place (Err e) have adds same = still_placed old new have same

place_more : (old new : BTreeMap (List ℕ) Places) (name : List ℕ) (place : ℕ) → HavePlaces old → Adds old new name (places (Some place) None)
    → (n : List ℕ) → first_of (value_of new n) ≡ option_or (first_of (value_of old n)) (cond (bytes_eq n name) (Some place) None)
place_more old new name place have adds n = ap first_of (adds n) ∙ go (value_of old n) refl (bytes_eq n name)
  where
    kept : (o other : Option ℕ) → IsSome o → o ≡ option_or o other
    kept (Some k) other is = refl
    kept None other is = absurd (cc is)

    go : (o : Option Places) → value_of old n ≡ o → (b : Bool) → first_of (option_or o (one b place)) ≡ option_or (first_of o) (cond b (Some place) None)
    go (Some p) there b = kept p.first (cond b (Some place) None) (have n p there)
    go None there true = refl
    go None there false = refl

-- where memory sufficed
pub place_noted : {T E : Type 0} (old new : BTreeMap (List ℕ) Places) (name : List ℕ) (place : ℕ) (result : Result T E) → HavePlaces old
    → OnOk result (Adds old new name (places (Some place) None))
    → OnOk result ((n : List ℕ) → first_of (value_of new n) ≡ option_or (first_of (value_of old n)) (cond (bytes_eq n name) (Some place) None))
place_noted old new name place (Ok x) have adds = place_more old new name place have adds
place_noted old new name place (Err e) have adds = adds
