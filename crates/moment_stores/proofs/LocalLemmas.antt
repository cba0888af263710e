-- Locals with their values.
use Rattle.std.proofs.Common.{◌≡◌, ℕ, zero, suc, ◌+◌, ◌-◌, ◌<◌, ◌≤◌, Bool, true, false, List, [], ◌∷◌, ◌++◌, length, get_or, set, take, drop, refl, ap, sym, ◌∙◌, arith, cond, length-drop}
use Rattle.std.proofs.lemmas.List.{length-map}
use Rattle.std.specs.Prelude.{Some, None}
use Rattle.std.specs.Map.{lookup}
use Rattle.std.specs.List.{take-map, drop-map}
use Rattle.std.proofs.lemmas.List.{take-append-drop, map-set, map-append, drop-take, take-take, take-set-le, drop-append-le}
use Rattle.lisa_tree.specs.Same.{same_name}
use Rattle.typed_values.specs.Words.{TypedWord, typed_word}
use Rattle.typed_values.specs.Effects.{Locals, local_put}
use Rattle.moment_stores.specs.declared.locals.Local.{Local}
use Rattle.moment_stores.specs.Locals.{local_pair, local_pairs}

-- ---- lists

pub drop_set : {X : Type 0} (xs : List X) (b q p : ℕ) (x : X) → q ≡ b + p → drop b (set xs q x) ≡ set (drop b xs) p x
drop_set xs zero q p x at = ap (λ (n : ℕ). set xs n x) (omega arith)
drop_set [] (suc b) q p x at = refl
drop_set (y ∷ ys) (suc b) zero p x at = absurd (omega arith)
drop_set (y ∷ ys) (suc b) (suc q) p x at = drop_set ys b q p x (omega arith)

pub get_drop : {X : Type 0} (xs : List X) (b p : ℕ) (d : X) → get_or (drop b xs) p d ≡ get_or xs (b + p) d
get_drop xs zero p d = ap (λ (n : ℕ). get_or xs n d) (omega arith)
get_drop [] (suc b) p d = refl
get_drop (y ∷ ys) (suc b) p d = get_drop ys b p d ∙ (let e : suc (b + p) ≡ suc b + p = omega arith in ap (λ (n : ℕ). get_or (y ∷ ys) n d) e)

pub take_all : {X : Type 0} (n : ℕ) (xs : List X) → length xs ≤ n → take n xs ≡ xs
take_all zero [] short = refl
take_all zero (x ∷ xs) short = absurd (omega arith)
take_all (suc n) [] short = refl
take_all (suc n) (x ∷ xs) short = ap (λ (l : List _). x ∷ l) (take_all n xs (omega arith))

pub drop_all : {X : Type 0} (n : ℕ) (xs : List X) → length xs ≤ n → drop n xs ≡ []
drop_all zero [] short = refl
drop_all zero (x ∷ xs) short = absurd (omega arith)
drop_all (suc n) [] short = refl
drop_all (suc n) (x ∷ xs) short = drop_all n xs (omega arith)

-- ---- one local

pub value_found : (n : List ℕ) (xs : List Local) (i : ℕ) (x : Local) → i < length xs → get_or xs i x ≡ x → same_name n x.name.now ≡ true
    → ((k : ℕ) → k < i → same_name n (get_or xs k x).name.now ≡ false) → Some (typed_word x.value) ≡ lookup (same_name n) (local_pairs xs)
value_found n [] i x within is told free = absurd (omega arith)
value_found n (y ∷ ys) zero x within is told free =
    sym (ap (λ (l : Local). cond (same_name n l.name.now) (Some (typed_word l.value)) (lookup (same_name n) (local_pairs ys))) is
    ∙ ap (λ (b : Bool). cond b (Some (typed_word x.value)) (lookup (same_name n) (local_pairs ys))) told)
value_found n (y ∷ ys) (suc i) x within is told free =
    value_found n ys i x (omega arith) is told (λ k h. free (suc k) (omega arith))
    ∙ sym (ap (λ (b : Bool). cond b (Some (typed_word y.value)) (lookup (same_name n) (local_pairs ys))) (free 0 (omega arith)))

pub value_none : (n : List ℕ) (xs : List Local) → ((k : ℕ) (d : Local) → k < length xs → same_name n (get_or xs k d).name.now ≡ false) → lookup (same_name n) (local_pairs xs) ≡ None
value_none n [] free = refl
value_none n (y ∷ ys) free =
    ap (λ (b : Bool). cond b (Some (typed_word y.value)) (lookup (same_name n) (local_pairs ys))) (free 0 y (omega arith))
    ∙ value_none n ys (λ k d h. free (suc k) d (omega arith))

-- the first one of the name takes the value
pub put_found : (n : List ℕ) (v : TypedWord) (xs : List Local) (i : ℕ) (x : Local) → i < length xs → get_or xs i x ≡ x → same_name n x.name.now ≡ true
    → ((k : ℕ) → k < i → same_name n (get_or xs k x).name.now ≡ false) → local_put (local_pairs xs) n v ≡ set (local_pairs xs) i (x.name.now, v)
put_found n v [] i x within is told free = absurd (omega arith)
put_found n v (y ∷ ys) zero x within is told free =
    ap (λ (l : Local). cond (same_name n l.name.now) ((l.name.now, v) ∷ local_pairs ys) (local_pair l ∷ local_put (local_pairs ys) n v)) is
    ∙ ap (λ (b : Bool). cond b ((x.name.now, v) ∷ local_pairs ys) (local_pair x ∷ local_put (local_pairs ys) n v)) told
put_found n v (y ∷ ys) (suc i) x within is told free =
    ap (λ (b : Bool). cond b ((y.name.now, v) ∷ local_pairs ys) (local_pair y ∷ local_put (local_pairs ys) n v)) (free 0 (omega arith))
    ∙ ap (λ (l : Locals). local_pair y ∷ l) (put_found n v ys i x (omega arith) is told (λ k h. free (suc k) (omega arith)))

-- a new one goes last
pub put_new : (n : List ℕ) (v : TypedWord) (xs : List Local) → ((k : ℕ) (d : Local) → k < length xs → same_name n (get_or xs k d).name.now ≡ false) → local_put (local_pairs xs) n v ≡ local_pairs xs ++ (n, v) ∷ []
put_new n v [] free = refl
put_new n v (y ∷ ys) free =
    ap (λ (b : Bool). cond b ((y.name.now, v) ∷ local_pairs ys) (local_pair y ∷ local_put (local_pairs ys) n v)) (free 0 y (omega arith))
    ∙ ap (λ (l : Locals). local_pair y ∷ l) (put_new n v ys (λ k d h. free (suc k) d (omega arith)))

-- ---- all locals, of which those from the base on are in scope

module _ (all : List Local) (base : ℕ) where
  pub scope_set : (p q : ℕ) (x : Local) → q ≡ base + p → local_pairs (drop base (set all q x)) ≡ set (local_pairs (drop base all)) p (local_pair x)
  scope_set p q x at = ap local_pairs (drop_set all base q p x at) ∙ map-set local_pair (drop base all) p x

  pub outer_set : (p q : ℕ) (x : Local) → q ≡ base + p → take base (set all q x) ≡ take base all
  outer_set p q x at = take-set-le base all q x (omega arith)

  pub scope_push : (x : Local) → base ≤ length all → local_pairs (drop base (all ++ x ∷ [])) ≡ local_pairs (drop base all) ++ local_pair x ∷ []
  scope_push x inside = ap local_pairs (drop-append-le base all (x ∷ []) inside) ∙ map-append local_pair (drop base all) (x ∷ [])

  pub scope_leave : (count : ℕ) → local_pairs (drop base (take (base + count) all)) ≡ take count (local_pairs (drop base all))
  scope_leave count = ap local_pairs (drop-take base count all) ∙ sym (take-map local_pair count (drop base all))

  pub outer_leave : (count : ℕ) → take base (take (base + count) all) ≡ take base all
  outer_leave count = take-take base (base + count) all (omega arith)

-- ---- the place of a name

module _ (n : List ℕ) (all : List Local) (base place : ℕ) (from : base ≤ place) (before : (k : ℕ) (d : Local) → base ≤ k → k < place → same_name n (get_or all k d).name.now ≡ false) where
  ahead : (k : ℕ) (d : Local) → k < place - base → same_name n (get_or (drop base all) k d).name.now ≡ false
  ahead k d less = ap (λ (l : Local). same_name n l.name.now) (get_drop all base k d) ∙ before (base + k) d (omega arith) (omega (arith, less, from))

  inside : place < length all → place - base < length (drop base all)
  inside less = omega (arith, length-drop base all, less, from)

  at_place : (x : Local) → x ≡ get_or all place x → get_or (drop base all) (place - base) x ≡ x
  at_place x is = get_drop all base (place - base) x ∙ (let e : base + (place - base) ≡ place = omega (arith, from) in ap (λ (k : ℕ). get_or all k x) e) ∙ sym is

  pub there_value : (x : Local) → place < length all → x ≡ get_or all place x → same_name n x.name.now ≡ true → Some (typed_word x.value) ≡ lookup (same_name n) (local_pairs (drop base all))
  there_value x less is told = value_found n (drop base all) (place - base) x (inside less) (at_place x is) told (λ k h. ahead k x h)

  pub there_put : (v : TypedWord) (x new : Local) → place < length all → x ≡ get_or all place x → same_name n x.name.now ≡ true → local_pair new ≡ (x.name.now, v)
      → local_pairs (drop base (set all place new)) ≡ local_put (local_pairs (drop base all)) n v
  there_put v x new less is told pair =
      scope_set all base (place - base) place new (omega (arith, from)) ∙ ap (set (local_pairs (drop base all)) (place - base)) pair
      ∙ sym (put_found n v (drop base all) (place - base) x (inside less) (at_place x is) told (λ k h. ahead k x h))

  pub past_value : length all ≤ place → lookup (same_name n) (local_pairs (drop base all)) ≡ None
  past_value past = value_none n (drop base all) (λ k d less. ahead k d (omega (arith, less, length-drop base all, past)))

  pub past_put : (v : TypedWord) (new : Local) → length all ≤ place → base ≤ length all → local_pair new ≡ (n, v) → local_pairs (drop base (all ++ new ∷ [])) ≡ local_put (local_pairs (drop base all)) n v
  past_put v new past low pair =
      scope_push all base new low ∙ ap (λ (p : List ℕ × TypedWord). local_pairs (drop base all) ++ p ∷ []) pair
      ∙ sym (put_new n v (drop base all) (λ k d less. ahead k d (omega (arith, less, length-drop base all, past))))

-- ---- bodies begin and end

pub entered : (all new : List Local) (base from : ℕ) → new ≡ all → from ≡ length all → local_pairs (take from new) ≡ local_pairs (take base all) ++ local_pairs (drop base all)
entered all new base from same at =
    ap (λ (xs : List Local). local_pairs (take from xs)) same ∙ ap local_pairs (take_all from all (omega (arith, at)))
    ∙ ap local_pairs (sym (take-append-drop base all)) ∙ map-append local_pair (take base all) (drop base all)

pub exited_scope : (all new : List Local) (base from place : ℕ) → new ≡ take base all → from ≡ place → local_pairs (drop from new) ≡ drop place (local_pairs (take base all))
exited_scope all new base from place same at =
    ap (λ (xs : List Local). local_pairs (drop from xs)) same ∙ ap (λ (k : ℕ). local_pairs (drop k (take base all))) at ∙ sym (drop-map local_pair place (take base all))

pub exited_outer : (all new : List Local) (base from place : ℕ) → new ≡ take base all → from ≡ place → local_pairs (take from new) ≡ take place (local_pairs (take base all))
exited_outer all new base from place same at =
    ap (λ (xs : List Local). local_pairs (take from xs)) same ∙ ap (λ (k : ℕ). local_pairs (take k (take base all))) at ∙ sym (take-map local_pair place (take base all))

pub entered_count : (all new : List Local) (from count : ℕ) → new ≡ all → from ≡ length all → count ≡ length all → length (local_pairs (take from new)) ≡ count
entered_count all new from count same at counted =
    ap (λ (xs : List Local). length (local_pairs (take from xs))) same ∙ ap (λ (xs : List Local). length (local_pairs xs)) (take_all from all (omega (arith, at))) ∙ length-map all local_pair ∙ sym counted
