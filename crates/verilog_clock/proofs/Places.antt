-- The places of names.
use Rattle.std.proofs.Common.{◌≡◌, ◌≢◌, ℕ, suc, ◌+◌, ◌<◌, ◌≤◌, Bool, true, false, cond, not, List, [], ◌∷◌, ◌++◌, length, map, get_or, refl, sym, ap, ap₂, ◌∙◌, subst, arith, ⊎_elim}
use Rattle.std.specs.Prelude.{nat_eq, min, AllPairs}
use Rattle.std.specs.List.{list_any, position_or_len}
use Rattle.std.specs.Str.{bytes_eq}
use Rattle.std.specs.Cmp.Lexicographic.{pointwise}
use Rattle.std.proofs.lemmas.Bool.{cases_Bool}
use Rattle.std.proofs.lemmas.Slice.Eq.{bytes_eq-Decides}
use Rattle.std.proofs.lemmas.List.{get_or_append_left}
use Rattle.std.proofs.lemmas.List.Folds.{list_any_none}
use Rattle.std.proofs.Common.{append_assoc, length-append}
use Rattle.std.proofs.lemmas.List.{append-nil}
use Rattle.std.proofs.Math.Seq.{get_or-append_seam}
use Rattle.name_tables.specs.Keys.{insert_key, insert_all}
use Rattle.lisa_engine.specs.declared.parts.Item.{Item}
use Rattle.lisa_engine.specs.declared.parts.ArrayItem.{ArrayItem}
use Rattle.verilog_text.specs.Clocked.{item_place, array_place}

bytes_eq_from : (a b : List ℕ) → a ≡ b → bytes_eq a b ≡ true
bytes_eq_from a b is = (bytes_eq-Decides a b).1 is

pub same_bytes : (a b : List ℕ) → bytes_eq a b ≡ true → a ≡ b
same_bytes a b is = (bytes_eq-Decides a b).0 is

pub bytes_eq-turned : (a b : List ℕ) → bytes_eq a b ≡ bytes_eq b a
bytes_eq-turned a b = go (bytes_eq a b) (bytes_eq b a) refl refl
  where
    go : (x y : Bool) → bytes_eq a b ≡ x → bytes_eq b a ≡ y → x ≡ y
    go true true is other = refl
    go false false is other = refl
    go true false is other = sym (bytes_eq_from b a (sym (same_bytes a b is))) ∙ other ∙ refl
    go false true is other = sym is ∙ bytes_eq_from a b (sym (same_bytes b a other))

pub items_place : (items : List Item) (name : List ℕ) → position_or_len (pointwise nat_eq name) (map (λ (item : Item). item.name) items) ≡ item_place items name
items_place [] name = refl
items_place (item ∷ rest) name = ap₂ (λ (b : Bool) (n : ℕ). cond (not b) (1 + n) 0) (bytes_eq-turned name item.name) (items_place rest name)

pub arrays_place : (items : List ArrayItem) (name : List ℕ) → position_or_len (pointwise nat_eq name) (map (λ (item : ArrayItem). item.name) items) ≡ array_place items name
arrays_place [] name = refl
arrays_place (item ∷ rest) name = ap₂ (λ (b : Bool) (n : ℕ). cond (not b) (1 + n) 0) (bytes_eq-turned name item.name) (arrays_place rest name)

-- the place in a first part
pub front_place : (front rest : List Item) (name : List ℕ) → min (item_place (front ++ rest) name) (length front) ≡ item_place front name
front_place [] rest name = omega arith
front_place (item ∷ front) rest name = go (bytes_eq item.name name) (front_place front rest name)
  where
    go : (b : Bool) → min (item_place (front ++ rest) name) (length front) ≡ item_place front name
        → min (cond (not b) (1 + item_place (front ++ rest) name) 0) (suc (length front)) ≡ cond (not b) (1 + item_place front name) 0
    go true is = omega arith
    go false is = omega (arith, is)

-- names that differ are all kept
none_equal : (keys : List (List ℕ)) (name : List ℕ) (rest : List (List ℕ)) → AllPairs (λ (a b : List ℕ). a ≢ b) (keys ++ (name ∷ rest)) → list_any (pointwise nat_eq name) keys ≡ false
none_equal keys name rest distinct = list_any_none (pointwise nat_eq name) keys (λ k d within. ⊎_elim
    (λ t. let far : length keys < length (keys ++ (name ∷ rest)) = omega (arith, length-append keys (name ∷ rest)) in
    absurd (distinct k (length keys) d within far
    (get_or_append_left keys (name ∷ rest) d k within ∙ sym (same_bytes name (get_or keys k d) t) ∙ sym (get_or-append_seam keys name rest d))))
    (λ f. f) (cases_Bool (bytes_eq name (get_or keys k d))))

pub insert_all_new : (keys names : List (List ℕ)) → AllPairs (λ (a b : List ℕ). a ≢ b) (keys ++ names) → insert_all keys names ≡ keys ++ names
insert_all_new keys [] distinct = sym (append-nil keys)
insert_all_new keys (name ∷ rest) distinct =
    let new : insert_key keys name ≡ keys ++ (name ∷ []) = ap (λ (b : Bool). cond b keys (keys ++ (name ∷ []))) (none_equal keys name rest distinct) in
    let along : (keys ++ (name ∷ [])) ++ rest ≡ keys ++ (name ∷ rest) = append_assoc keys (name ∷ []) rest in
    ap (λ (ks : List (List ℕ)). insert_all ks rest) new
    ∙ insert_all_new (keys ++ (name ∷ [])) rest (subst (λ (ks : List (List ℕ)). AllPairs (λ (a b : List ℕ). a ≢ b) ks) (sym along) distinct)
    ∙ along
