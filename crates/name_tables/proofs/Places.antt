-- The places of names.
use Rattle.std.proofs.Common.{◌≡◌, ℕ, suc, ◌+◌, Bool, Bor, true, false, cond, not, ◌||◌, List, [], ◌∷◌, ◌++◌, length, Option, Some, None, refl, sym, ap, ap₂, ◌∙◌, arith, true≢false}
use Rattle.std.specs.Prelude.{option_map, is_some, unwrap_or, if◌then◌else◌}
use Rattle.std.specs.List.{list_any, position_or_len}
use Rattle.std.specs.Option.{option_or, option_copied}
use Rattle.std.specs.Str.{bytes_eq}
use Rattle.std.proofs.lemmas.Slice.Eq.{bytes_eq-Decides}
use Rattle.std.specs.BTreeMap.{BTreeMap, Updates}
use Rattle.std.specs.Cmp.Lexicographic.{slice_cmp}
use Rattle.std.specs.Ordering.{nat_cmp}
use Rattle.name_tables.specs.Keys.{insert_key, place_in}
use Rattle.name_tables.specs.TableViews.{value_of}
use Rattle.name_tables.proofs.TableLaws.{put_one}

next_some : (o : Option ℕ) → is_some (option_map suc o) ≡ is_some o
next_some None = refl
next_some (Some k) = refl

-- what has a place is among the names
pub placed_any : (names : List (List ℕ)) (name : List ℕ) → is_some (place_in names name) ≡ list_any (bytes_eq name) names
placed_any [] name = refl
placed_any (x ∷ rest) name = go (bytes_eq name x) (placed_any rest name)
  where
    go : (b : Bool) → is_some (place_in rest name) ≡ list_any (bytes_eq name) rest
        → is_some (if b then Some 0 else option_map suc (place_in rest name)) ≡ (b || list_any (bytes_eq name) rest)
    go true is = refl
    go false is = next_some (place_in rest name) ∙ is

next_place : (o : Option ℕ) (n : ℕ) → unwrap_or (option_map suc o) (suc n) ≡ suc (unwrap_or o n)
next_place None n = refl
next_place (Some k) n = refl

one_more : (k : ℕ) → suc k ≡ 1 + k
one_more k = omega arith

-- the place of a name, or the number of names
pub placed_first : (names : List (List ℕ)) (name : List ℕ) → unwrap_or (place_in names name) (length names) ≡ position_or_len (bytes_eq name) names
placed_first [] name = refl
placed_first (x ∷ rest) name = go (bytes_eq name x) (placed_first rest name)
  where
    go : (b : Bool) → unwrap_or (place_in rest name) (length rest) ≡ position_or_len (bytes_eq name) rest
        → unwrap_or (if b then Some 0 else option_map suc (place_in rest name)) (suc (length rest)) ≡ cond (not b) (1 + position_or_len (bytes_eq name) rest) 0
    go true is = refl
    go false is = next_place (place_in rest name) (length rest) ∙ ap suc is ∙ one_more (position_or_len (bytes_eq name) rest)

-- ---- one more name

-- the place of the last one
abbrev last_place : Bool → ℕ → Option ℕ
last_place b n = if b then Some n else None

next_last : (o : Option ℕ) (b : Bool) (n : ℕ) → option_map suc (option_or o (last_place b n)) ≡ option_or (option_map suc o) (last_place b (suc n))
next_last (Some k) b n = refl
next_last None true n = refl
next_last None false n = refl

pub placed_behind : (names : List (List ℕ)) (last name : List ℕ) → place_in (names ++ last ∷ []) name ≡ option_or (place_in names name) (last_place (bytes_eq name last) (length names))
placed_behind [] last name = go (bytes_eq name last)
  where
    go : (b : Bool) → (if b then Some 0 else option_map suc None) ≡ option_or None (if b then Some 0 else None)
    go true = refl
    go false = refl
placed_behind (x ∷ rest) last name = go (bytes_eq name x) (placed_behind rest last name)
  where
    go : (b : Bool) → place_in (rest ++ last ∷ []) name ≡ option_or (place_in rest name) (last_place (bytes_eq name last) (length rest))
        → (if b then Some 0 else option_map suc (place_in (rest ++ last ∷ []) name)) ≡ option_or (if b then Some 0 else option_map suc (place_in rest name)) (last_place (bytes_eq name last) (suc (length rest)))
    go true is = refl
    go false is = ap (option_map suc) is ∙ next_last (place_in rest name) (bytes_eq name last) (length rest)

not_some : (o : Option ℕ) → is_some o ≡ false → o ≡ None
not_some None is = refl
not_some (Some k) is = absurd (true≢false is)

or_nothing : (o : Option ℕ) → o ≡ option_or o None
or_nothing None = refl
or_nothing (Some k) = refl

-- places with that of a new name are those of the names with it behind them
pub placed_more : (names : List (List ℕ)) (last name : List ℕ) (o : Option ℕ) → list_any (bytes_eq last) names ≡ false → o ≡ place_in names name
    → cond (bytes_eq name last) (Some (length names)) o ≡ place_in (names ++ last ∷ []) name
placed_more names last name o new is = go (bytes_eq name last) refl ∙ sym (placed_behind names last name)
  where
    go : (b : Bool) → bytes_eq name last ≡ b → cond b (Some (length names)) o ≡ option_or (place_in names name) (last_place b (length names))
    go true same =
        let none : place_in names name ≡ None = not_some (place_in names name) (placed_any names name ∙ ap (λ (n : List ℕ). list_any (bytes_eq n) names) ((bytes_eq-Decides name last).0 same) ∙ new) in
        sym (ap (λ (p : Option ℕ). option_or p (Some (length names))) none)
    go false other = is ∙ or_nothing (place_in names name)

-- a new name goes behind the others
pub key_behind : (names : List (List ℕ)) (name : List ℕ) → list_any (bytes_eq name) names ≡ false → insert_key names name ≡ names ++ name ∷ []
key_behind names name new = ap (λ (b : Bool). if b then names else names ++ name ∷ []) new

-- one that is there is not put in again
pub key_stays : (names : List (List ℕ)) (name : List ℕ) → list_any (bytes_eq name) names ≡ true → insert_key names name ≡ names
key_stays names name there = ap (λ (b : Bool). if b then names else names ++ name ∷ []) there

-- ---- a table with the places of names

copied_some : (o : Option (Bor ℕ)) → is_some o ≡ is_some (option_copied o)
copied_some None = refl
copied_some (Some k) = refl

-- what is found tells whether the name is there
pub any_found : (names : List (List ℕ)) (name : List ℕ) (o : Option (Bor ℕ)) (p : Option ℕ) → option_copied o ≡ p → p ≡ place_in names name → is_some o ≡ list_any (bytes_eq name) names
any_found names name o p is placed = copied_some o ∙ ap is_some (is ∙ placed) ∙ placed_any names name

-- and its place
pub place_found : (names : List (List ℕ)) (name : List ℕ) (o : Option (Bor ℕ)) (p : Option ℕ) → option_copied o ≡ p → p ≡ place_in names name
    → unwrap_or (option_copied o) (length names) ≡ position_or_len (bytes_eq name) names
place_found names name o p is placed = ap (λ (q : Option ℕ). unwrap_or q (length names)) (is ∙ placed) ∙ placed_first names name

-- the table has the places of the names with a new one behind them, once that one is pushed
pub placed_all : (names before keys : List (List ℕ)) (old new : BTreeMap (List ℕ) ℕ) (name key copy : List ℕ) (place : ℕ) (pushed : Bool) → ((n : List ℕ) → value_of old n ≡ place_in names n)
    → list_any (bytes_eq name) names ≡ false → key ≡ name → copy ≡ name → place ≡ length names → Updates (slice_cmp nat_cmp) old new copy (Some place)
    → keys ≡ (if pushed then before ++ key ∷ [] else before) → pushed ≡ true → before ≡ names → (n : List ℕ) → value_of new n ≡ place_in keys n
placed_all names before keys old new name key copy place pushed placed absent same same_copy last updates is done kept n =
    let all : keys ≡ names ++ name ∷ [] = is ∙ ap (λ (b : Bool). if b then before ++ key ∷ [] else before) done ∙ ap₂ (λ (ks : List (List ℕ)) (k : List ℕ). ks ++ k ∷ []) kept same in
    put_one old new copy (Some place) updates n
    ∙ ap₂ (λ (c : List ℕ) (k : ℕ). cond (bytes_eq n c) (Some k) (value_of old n)) same_copy last
    ∙ placed_more names name n (value_of old n) absent (placed n)
    ∙ ap (λ (ks : List (List ℕ)). place_in ks n) (sym all)
