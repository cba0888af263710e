-- The table of keys is a table that finds only what is there.
use Rattle.std.proofs.Common.{◌≡◌, ℕ, suc, ◌+◌, Bool, true, false, cond, not, ◌||◌, List, [], ◌∷◌, ◌++◌, length, refl, sym, ap, ◌∙◌, arith, nat_lt}
use Rattle.std.specs.Prelude.{Option, Some, None, position}
use Rattle.std.specs.List.{slice_get, list_any, position_or_len}
use Rattle.std.proofs.lemmas.Bool.{lt-ltb, cond_both}
use Rattle.std.proofs.lemmas.Bool.Decides.{nat_tests}
use Rattle.netlist_wires.specs.declared.keys.Key.{Key}
use Rattle.netlist_wires.specs.declared.keys.Body.{Body}
use Rattle.netlist_wires.specs.declared.keys.Flat.TheVariants.{OfWire}
use Rattle.netlist_wires.specs.Tables.{IsFind}
use Rattle.netlist_wires.specs.Wiring.{share, shared}
use Rattle.indexmap.specs.IndexSet.{insert_key}
use Rattle.netlist_build.specs.Symbolic.{first}

lt_more : (n m : ℕ) → nat_lt n m ≡ nat_lt (1 + n) (suc m)
lt_more n m = grind (arith, nat_tests)

module _ {X : Type 0} (p : X → Bool) where
  pub any_or_len : (xs : List X) → list_any p xs ≡ nat_lt (position_or_len p xs) (length xs)
  any_or_len [] = refl
  any_or_len (x ∷ xs) = go (any_or_len xs) (p x)
    where
      go : list_any p xs ≡ nat_lt (position_or_len p xs) (length xs) → (b : Bool) → (b || list_any p xs) ≡ nat_lt (cond (not b) (1 + position_or_len p xs) 0) (length (x ∷ xs))
      go h true = sym (lt-ltb 0 (length (x ∷ xs)) (omega arith))
      go h false = h ∙ lt_more (position_or_len p xs) (length xs)

  pub len_or_any : (xs : List X) → list_any p xs ≡ false → position_or_len p xs ≡ length xs
  len_or_any [] e = refl
  len_or_any (x ∷ xs) e = go (len_or_any xs) (p x) e
    where
      go : (list_any p xs ≡ false → position_or_len p xs ≡ length xs) → (b : Bool) → (b || list_any p xs) ≡ false → cond (not b) (1 + position_or_len p xs) 0 ≡ length (x ∷ xs)
      go h true e = cc
      go h false e = ap (λ (n : ℕ). 1 + n) (h e) ∙ omega arith

  at_first : (xs : List X) → nat_lt (position_or_len p xs) (length xs) ≡ true → (x : X) × (slice_get xs (position_or_len p xs) ≡ Some x) × (p x ≡ true)
  at_first [] e = cc
  at_first (x ∷ xs) e = go (at_first xs) (p x) refl e
    where
      go : (nat_lt (position_or_len p xs) (length xs) ≡ true → (x : X) × (slice_get xs (position_or_len p xs) ≡ Some x) × (p x ≡ true)) → (b : Bool) → p x ≡ b → nat_lt (cond (not b) (1 + position_or_len p xs) 0) (length (x ∷ xs)) ≡ true → (y : X) × (slice_get (x ∷ xs) (cond (not b) (1 + position_or_len p xs) 0) ≡ Some y) × (p y ≡ true)
      go h true is e = (x, refl, is)
      go h false is e =
          let r = h (lt_more (position_or_len p xs) (length xs) ∙ e) in
          (let n = position_or_len p xs in let up : 1 + n ≡ suc n = omega arith in (r.0, ap (slice_get (x ∷ xs)) up ∙ r.1, r.2))

  pub found_at : (xs : List X) (k : ℕ) → position p xs ≡ Some k → (x : X) × (slice_get xs k ≡ Some x) × (p x ≡ true)
  found_at xs k e =
      cond_both (nat_lt (position_or_len p xs) (length xs)) (Some (position_or_len p xs)) None (λ (o : Option ℕ). o ≡ Some k → (x : X) × (slice_get xs k ≡ Some x) × (p x ≡ true))
      (λ is e. (let r = at_first xs is in let same : position_or_len p xs ≡ k = cc in (r.0, ap (slice_get xs) (sym same) ∙ r.1, r.2))) (λ is e. absurd (cc)) e

module _ (eq : Key → Key → Bool) where
  -- the place and the keys after an insertion
  shared_flat : (key : Key) (keys : List Key) → OfWire (position_or_len (eq key) keys) ≡ (shared (position (eq key) keys) key keys).flat
  shared_flat key keys =
      cond_both (nat_lt (position_or_len (eq key) keys) (length keys)) (Some (position_or_len (eq key) keys)) None (λ (o : Option ℕ). OfWire (position_or_len (eq key) keys) ≡ (shared o key keys).flat)
      (λ _. refl) (λ is. ap OfWire (len_or_any (eq key) keys (any_or_len (eq key) keys ∙ is)))

  shared_keys : (key : Key) (keys : List Key) → insert_key eq keys key ≡ (shared (position (eq key) keys) key keys).keys
  shared_keys key keys =
      ap (λ b. cond b keys (keys ++ (key ∷ []))) (any_or_len (eq key) keys)
      ∙ go (nat_lt (position_or_len (eq key) keys) (length keys))
    where
      go : (b : Bool) → cond b keys (keys ++ (key ∷ [])) ≡ (shared (cond b (Some (position_or_len (eq key) keys)) None) key keys).keys
      go true = refl
      go false = refl

  pub share_flat : (w : ℕ) (body : Body) (keys : List Key) → OfWire (position_or_len (eq (record { width = w; body = body })) keys) ≡ (share (first eq) w body keys).flat
  unfolding share
  share_flat w body keys = shared_flat (record { width = w; body = body }) keys

  pub share_keys : (w : ℕ) (body : Body) (keys : List Key) → insert_key eq keys (record { width = w; body = body }) ≡ (share (first eq) w body keys).keys
  unfolding share
  share_keys w body keys = shared_keys (record { width = w; body = body }) keys

  pub is_find : ((a b : Key) → eq a b ≡ true → a ≡ b) → IsFind (first eq)
  is_find same keys key k e =
      let r = found_at (eq key) keys k e in
      r.1 ∙ ap (λ (x : Key). Some x) (sym (same key r.0 r.2))
