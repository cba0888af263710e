-- Where names stand among others with their values.
use Rattle.std.proofs.Common.{◌≡◌, ◌<◌, ◌≤◌, ◌∙◌, ℕ, zero, suc, Bool, true, false, cond, List, [], ◌∷◌, ◌++◌, length, take, get_or, set, Option, Some, None, refl, sym, ap, arith, true≢false}
use Rattle.std.specs.Prelude.{option_map, if◌then◌else◌}
use Rattle.std.specs.Map.{keys_of, lookup}
use Rattle.std.specs.Str.{bytes_eq}
use Rattle.std.proofs.lemmas.Option.{same_Some}
use Rattle.std.proofs.lemmas.Slice.Eq.{bytes_eq-Decides}
use Rattle.std.specs.Option.{option_or}
use Rattle.std.specs.BTreeMap.{BTreeMap, Updates}
use Rattle.std.specs.Cmp.Lexicographic.{slice_cmp}
use Rattle.std.specs.Ordering.{nat_cmp}
use Rattle.name_tables.specs.Keys.{place_in}
use Rattle.name_tables.specs.TableViews.{value_of}
use Rattle.name_tables.proofs.Places.{placed_behind}
use Rattle.name_tables.proofs.TableLaws.{put_one}
use Rattle.name_tables.specs.NamedValues.{with_value, Finds}

same_either : (a b : List ℕ) → bytes_eq a b ≡ true → bytes_eq b a ≡ true
same_either a b same = (bytes_eq-Decides b a).1 (sym ((bytes_eq-Decides a b).0 same))

-- what stands before the place of a name is another one
behind : (b : Bool) (later : Option ℕ) (k : ℕ) → (if b then Some 0 else option_map suc later) ≡ Some (suc k) → (b ≡ false) × (later ≡ Some k)
behind true later k is = absurd (cc is)
behind false None k is = absurd (cc is)
behind false (Some j) k is = (refl, cc is)

here : (b : Bool) (later : Option ℕ) → (if b then Some 0 else option_map suc later) ≡ Some zero → b ≡ true
here true later is = refl
here false None is = absurd (cc is)
here false (Some j) is = absurd (cc is)

first_none : (b : Bool) (later : Option ℕ) → (if b then Some 0 else option_map suc later) ≡ None → (b ≡ false) × (later ≡ None)
first_none true later is = absurd (cc is)
first_none false None is = (refl, refl)
first_none false (Some j) is = absurd (cc is)

module _ {V : Type 0} where
  -- ---- a place

  pub place_within : (es : List (List ℕ × V)) (n : List ℕ) (k : ℕ) → place_in (keys_of es) n ≡ Some k → k < length es
  place_within [] n k is = absurd (cc is)
  place_within (e ∷ es) n zero is = omega arith
  place_within (e ∷ es) n (suc k) is = (let h = place_within es n k ((behind (bytes_eq n e.0) (place_in (keys_of es) n) k is).1) in omega (arith, h))

  name_there : (es : List (List ℕ × V)) (n : List ℕ) (k : ℕ) (e : List ℕ × V) → place_in (keys_of es) n ≡ Some k → e ≡ get_or es k e → bytes_eq n e.0 ≡ true
  name_there [] n k e is read = absurd (cc is)
  name_there (x ∷ es) n zero e is read = ap (λ (y : List ℕ × V). bytes_eq n y.0) read ∙ here (bytes_eq n x.0) (place_in (keys_of es) n) is
  name_there (x ∷ es) n (suc k) e is read = name_there es n k e ((behind (bytes_eq n x.0) (place_in (keys_of es) n) k is).1) read

  some_place : (es : List (List ℕ × V)) (n : List ℕ) (k : ℕ) (e : List ℕ × V) → k < length es → e ≡ get_or es k e → bytes_eq n e.0 ≡ true → (j : ℕ) × (place_in (keys_of es) n ≡ Some j)
  some_place [] n k e h read same = absurd (omega (arith, h))
  some_place (x ∷ es) n zero e h read same =
      (0, ap (λ (b : Bool). if b then Some 0 else option_map suc (place_in (keys_of es) n)) (sym (ap (λ (y : List ℕ × V). bytes_eq n y.0) read) ∙ same))
  some_place (x ∷ es) n (suc k) e h read same = go (bytes_eq n x.0) (some_place es n k e (omega (arith, h)) read same)
    where
      go : (b : Bool) → (j : ℕ) × (place_in (keys_of es) n ≡ Some j) → (j : ℕ) × ((if b then Some 0 else option_map suc (place_in (keys_of es) n)) ≡ Some j)
      go true later = (0, refl)
      go false later = (suc later.0, ap (option_map suc) later.1)

  -- ---- what the places say

  module _ (places : List ℕ → Option ℕ) (es : List (List ℕ × V)) (n : List ℕ) (k : ℕ) (finds : Finds places es) (is : places n ≡ Some k) where
    alike : (j : ℕ) → place_in (keys_of es) n ≡ Some j → j ≡ k
    alike j at = same_Some j k (sym (finds n j at) ∙ is)

    pub stands_there : (e : List ℕ × V) → k < length es → e ≡ get_or es k e → bytes_eq e.0 n ≡ true → Some k ≡ place_in (keys_of es) n
    stands_there e h read same =
        let r = some_place es n k e h read (same_either e.0 n same) in
        sym (r.1 ∙ ap (λ (j : ℕ). Some j) (alike r.0 r.1))

    none_by : ((j : ℕ) → place_in (keys_of es) n ≡ Some j → ⊥) → None ≡ place_in (keys_of es) n
    none_by never = go (place_in (keys_of es) n) refl
      where
        go : (o : Option ℕ) → place_in (keys_of es) n ≡ o → None ≡ o
        go None at = refl
        go (Some j) at = absurd (never j at)

    pub stands_past : length es ≤ k → None ≡ place_in (keys_of es) n
    stands_past past = none_by (λ j at. (let h = place_within es n j at in let same = alike j at in omega (arith, h, same, past)))

    pub stands_elsewhere : (e : List ℕ × V) → e ≡ get_or es k e → bytes_eq e.0 n ≡ false → None ≡ place_in (keys_of es) n
    stands_elsewhere e read other = none_by (λ j at. true≢false (sym (same_either n e.0 (name_there es n k e (at ∙ ap (λ (i : ℕ). Some i) (alike j at)) read)) ∙ other))

  -- ---- values

  pub value_there : (es : List (List ℕ × V)) (n : List ℕ) (k : ℕ) (e : List ℕ × V) → place_in (keys_of es) n ≡ Some k → e ≡ get_or es k e → Some e.1 ≡ lookup (bytes_eq n) es
  value_there [] n k e is read = absurd (cc is)
  value_there (x ∷ es) n zero e is read = ap (λ (y : List ℕ × V). Some y.1) read ∙ ap (λ (b : Bool). cond b (Some x.1) (lookup (bytes_eq n) es)) (sym (here (bytes_eq n x.0) (place_in (keys_of es) n) is))
  value_there (x ∷ es) n (suc k) e is read =
      let r = behind (bytes_eq n x.0) (place_in (keys_of es) n) k is in
      value_there es n k e r.1 read ∙ ap (λ (b : Bool). cond b (Some x.1) (lookup (bytes_eq n) es)) (sym r.0)

  pub no_value : (es : List (List ℕ × V)) (n : List ℕ) → place_in (keys_of es) n ≡ None → None ≡ lookup (bytes_eq n) es
  no_value [] n is = refl
  no_value (x ∷ es) n is =
      let r = first_none (bytes_eq n x.0) (place_in (keys_of es) n) is in
      no_value es n r.1 ∙ ap (λ (b : Bool). cond b (Some x.1) (lookup (bytes_eq n) es)) (sym r.0)

  -- ---- what is put

  pub value_put : (es : List (List ℕ × V)) (n : List ℕ) (k : ℕ) (e : List ℕ × V) (v : V) → place_in (keys_of es) n ≡ Some k → e ≡ get_or es k e → set es k (e.0, v) ≡ with_value es n v
  value_put [] n k e v is read = absurd (cc is)
  value_put (x ∷ es) n zero e v is read =
      ap (λ (y : List ℕ × V). (y.0, v) ∷ es) read
      ∙ ap (λ (b : Bool). if b then (x.0, v) ∷ es else x ∷ with_value es n v) (sym (here (bytes_eq n x.0) (place_in (keys_of es) n) is))
  value_put (x ∷ es) n (suc k) e v is read =
      let r = behind (bytes_eq n x.0) (place_in (keys_of es) n) k is in
      ap (λ (rest : List (List ℕ × V)). x ∷ rest) (value_put es n k e v r.1 read)
      ∙ ap (λ (b : Bool). if b then (x.0, v) ∷ es else x ∷ with_value es n v) (sym r.0)

  pub value_last : (es : List (List ℕ × V)) (n : List ℕ) (v : V) → place_in (keys_of es) n ≡ None → es ++ (n, v) ∷ [] ≡ with_value es n v
  value_last [] n v is = refl
  value_last (x ∷ es) n v is =
      let r = first_none (bytes_eq n x.0) (place_in (keys_of es) n) is in
      ap (λ (rest : List (List ℕ × V)). x ∷ rest) (value_last es n v r.1)
      ∙ ap (λ (b : Bool). if b then (x.0, v) ∷ es else x ∷ with_value es n v) (sym r.0)

  -- ---- the places stay right

  keys_set : (es : List (List ℕ × V)) (k : ℕ) (e : List ℕ × V) (v : V) → e ≡ get_or es k e → keys_of (set es k (e.0, v)) ≡ keys_of es
  keys_set [] k e v read = refl
  keys_set (x ∷ es) zero e v read = ap (λ (y : List ℕ × V). y.0 ∷ keys_of es) read
  keys_set (x ∷ es) (suc k) e v read = ap (λ (ks : List (List ℕ)). x.0 ∷ ks) (keys_set es k e v read)

  pub finds_set : (places : List ℕ → Option ℕ) (es new : List (List ℕ × V)) (k : ℕ) (e : List ℕ × V) (v : V) → Finds places es → e ≡ get_or es k e → new ≡ set es k (e.0, v) → Finds places new
  finds_set places es new k e v finds read made n j at = finds n j (ap (λ (ks : List (List ℕ)). place_in ks n) (sym (ap keys_of made ∙ keys_set es k e v read)) ∙ at)

  place_taken : (es : List (List ℕ × V)) (count : ℕ) (n : List ℕ) (k : ℕ) → place_in (keys_of (take count es)) n ≡ Some k → place_in (keys_of es) n ≡ Some k
  place_taken es zero n k at = absurd (cc at)
  place_taken [] (suc count) n k at = absurd (cc at)
  place_taken (x ∷ es) (suc count) n k at = go (bytes_eq n x.0) (place_taken es count n) k at
    where
      go : (b : Bool) → ((i : ℕ) → place_in (keys_of (take count es)) n ≡ Some i → place_in (keys_of es) n ≡ Some i)
          → (i : ℕ) → (if b then Some 0 else option_map suc (place_in (keys_of (take count es)) n)) ≡ Some i → (if b then Some 0 else option_map suc (place_in (keys_of es) n)) ≡ Some i
      go true later i at = at
      go false later zero at = absurd (true≢false (sym (here false (place_in (keys_of (take count es)) n) at)))
      go false later (suc i) at = ap (option_map suc) (later i ((behind false (place_in (keys_of (take count es)) n) i at).1))

  pub finds_taken : (places : List ℕ → Option ℕ) (es new : List (List ℕ × V)) (count : ℕ) → Finds places es → new ≡ take count es → Finds places new
  finds_taken places es new count finds made n k at = finds n k (place_taken es count n k (ap (λ (all : List (List ℕ × V)). place_in (keys_of all) n) (sym made) ∙ at))

  -- the keys with one more behind them
  keys_behind : (es : List (List ℕ × V)) (n : List ℕ) (v : V) → keys_of (es ++ (n, v) ∷ []) ≡ keys_of es ++ n ∷ []
  keys_behind [] n v = refl
  keys_behind (x ∷ es) n v = ap (λ (ks : List (List ℕ)). x.0 ∷ ks) (keys_behind es n v)

  keys_long : (es : List (List ℕ × V)) → length (keys_of es) ≡ length es
  keys_long [] = refl
  keys_long (x ∷ es) = ap suc (keys_long es)

  place_behind : (es : List (List ℕ × V)) (name n : List ℕ) (v : V) → place_in (keys_of (es ++ (name, v) ∷ [])) n ≡ option_or (place_in (keys_of es) n) (if bytes_eq n name then Some (length es) else None)
  place_behind es name n v =
      ap (λ (ks : List (List ℕ)). place_in ks n) (keys_behind es name v)
      ∙ placed_behind (keys_of es) name n
      ∙ ap (λ (k : ℕ). option_or (place_in (keys_of es) n) (if bytes_eq n name then Some k else None)) (keys_long es)

  module _ (places : List ℕ → Option ℕ) (es : List (List ℕ × V)) (name : List ℕ) (finds : Finds places es) (absent : place_in (keys_of es) name ≡ None) where
    found_more : (n : List ℕ) (j : ℕ) (v : V) (pushed : Bool) → place_in (keys_of (if pushed then es ++ (name, v) ∷ [] else es)) n ≡ Some j
        → cond (bytes_eq n name) (Some (length es)) (places n) ≡ Some j
    found_more n j v pushed at = go (bytes_eq n name) refl pushed at
      where
        before : bytes_eq n name ≡ true → place_in (keys_of es) n ≡ None
        before same = ap (place_in (keys_of es)) ((bytes_eq-Decides n name).0 same) ∙ absent

        or_none : (o : Option ℕ) → option_or o None ≡ o
        or_none None = refl
        or_none (Some k) = refl

        go : (b : Bool) → bytes_eq n name ≡ b → (pushed : Bool) → place_in (keys_of (if pushed then es ++ (name, v) ∷ [] else es)) n ≡ Some j → cond b (Some (length es)) (places n) ≡ Some j
        go true same false at = absurd (cc (sym (before same) ∙ at))
        go true same true at =
            sym (ap (λ (o : Option ℕ). option_or o (Some (length es))) (before same))
            ∙ ap (λ (b : Bool). option_or (place_in (keys_of es) n) (if b then Some (length es) else None)) (sym same)
            ∙ sym (place_behind es name n v) ∙ at
        go false apart false at = finds n j at
        go false apart true at =
            finds n j
            (sym (or_none (place_in (keys_of es) n))
            ∙ ap (λ (b : Bool). option_or (place_in (keys_of es) n) (if b then Some (length es) else None)) (sym apart)
            ∙ sym (place_behind es name n v) ∙ at)

  pub finds_pushed : (old new : BTreeMap (List ℕ) ℕ) (es after : List (List ℕ × V)) (name key copy : List ℕ) (v : V) (place : ℕ) (pushed : Bool) → Finds (value_of old) es
      → place_in (keys_of es) name ≡ None → key ≡ name → copy ≡ name → place ≡ length es → Updates (slice_cmp nat_cmp) old new copy (Some place)
      → after ≡ (if pushed then es ++ (key, v) ∷ [] else es) → Finds (value_of new) after
  finds_pushed old new es after name key copy v place pushed finds absent same same_copy last updates made n j at =
      put_one old new copy (Some place) updates n
      ∙ ap (λ (c : List ℕ). cond (bytes_eq n c) (Some place) (value_of old n)) same_copy
      ∙ ap (λ (k : ℕ). cond (bytes_eq n name) (Some k) (value_of old n)) last
      ∙ found_more (value_of old) es name finds absent n j v pushed
      (ap (λ (c : List ℕ). place_in (keys_of (if pushed then es ++ (c, v) ∷ [] else es)) n) (sym same) ∙ ap (λ (all : List (List ℕ × V)). place_in (keys_of all) n) (sym made) ∙ at)
