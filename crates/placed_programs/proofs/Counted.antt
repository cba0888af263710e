-- A memory has as many cells behind entries as it had before them and they have in it.
use Rattle.std.proofs.Common.{◌≡◌, ℕ, ◌+◌, Bool, true, false, cond, List, [], ◌∷◌, length, Option, None, Some, refl, sym, ap, ◌∙◌, arith}
use Rattle.std.specs.Str.{bytes_eq}
use Rattle.std.proofs.lemmas.List.{length-append, length-replicate}
use Rattle.placed_programs.specs.Entries.{Entry, Enter, Room, Put, Mark, Equal, Share}
use Rattle.placed_programs.specs.Addresses.{Counts, adding, entry_size, entered, counts_after}
use Rattle.placed_programs.specs.Symbols.{Symbols}
use Rattle.placed_programs.specs.Placed.{Sense, is_inside, entry_cells, cells_in}

-- whether the memory is the one that is entered
abbrev pub is_in : List ℕ → Option (List ℕ) → Bool
is_in m None = false
is_in m (Some n) = bytes_eq m n

cells_added : (m : List ℕ) (here : Option (List ℕ)) (n : ℕ) (counts : Counts) → adding here n counts m ≡ counts m + cond (is_in m here) n 0
cells_added m None n counts = omega arith
cells_added m (Some p) n counts = by (bytes_eq m p)
  where
    by : (b : Bool) → cond b (counts m + n) (counts m) ≡ counts m + cond b n 0
    by true = refl
    by false = omega arith

module _ {C : Type 0} (sense : Sense C) (symbols : Symbols) (m : List ℕ) where
  cells_are_counted : (a : ℕ) (e : Entry C) → length (entry_cells sense symbols a e) ≡ entry_size e
  cells_are_counted a (Enter n w) = refl
  cells_are_counted a (Room n) = length-replicate n 0
  cells_are_counted a (Put c) = refl
  cells_are_counted a (Mark n) = refl
  cells_are_counted a (Equal n v) = refl
  cells_are_counted a (Share n) = refl

  inside_is : (here : Option (List ℕ)) (e : Entry C) → is_inside m (is_in m here) e ≡ is_in m (entered here e)
  inside_is here (Enter n w) = refl
  inside_is here (Room n) = refl
  inside_is here (Put c) = refl
  inside_is here (Mark n) = refl
  inside_is here (Equal n v) = refl
  inside_is here (Share n) = refl

  pub counts_grow : (counts : Counts) (here : Option (List ℕ)) (a : ℕ) (es : List (Entry C))
      → counts_after counts here es m ≡ counts m + length (cells_in sense symbols m (is_in m here) a es)
  counts_grow counts here a [] = none (is_in m here)
    where
      none : (b : Bool) → counts m ≡ counts m + length (cells_in sense symbols m b a [])
      none true = omega arith
      none false = omega arith
  counts_grow counts here a (e ∷ es) = by (is_in m here) refl (λ next. counts_grow (adding here (entry_size e) counts) (entered here e) next es)
    where
      by : (b : Bool) → is_in m here ≡ b
          → ((next : ℕ) → counts_after counts here (e ∷ es) m ≡ adding here (entry_size e) counts m + length (cells_in sense symbols m (is_in m (entered here e)) next es))
          → counts_after counts here (e ∷ es) m ≡ counts m + length (cells_in sense symbols m (is_in m here) a (e ∷ es))
      by true t behind =
          let next : ℕ = a + entry_size e in
          let more : counts_after counts here (e ∷ es) m ≡ adding here (entry_size e) counts m + length (cells_in sense symbols m (is_in m (entered here e)) next es) = behind next in
          let one : adding here (entry_size e) counts m ≡ counts m + entry_size e =
          cells_added m here (entry_size e) counts ∙ ap (λ (b : Bool). counts m + cond b (entry_size e) 0) t in
          let own : length (cells_in sense symbols m (is_in m here) a (e ∷ es)) ≡ entry_size e + length (cells_in sense symbols m (is_in m (entered here e)) next es) =
          ap (λ (b : Bool). length (cells_in sense symbols m b a (e ∷ es))) t
          ∙ length-append (entry_cells sense symbols a e) (cells_in sense symbols m (is_inside m true e) next es)
          ∙ ap (λ (k : ℕ). k + length (cells_in sense symbols m (is_inside m true e) next es)) (cells_are_counted a e)
          ∙ ap (λ (b : Bool). entry_size e + length (cells_in sense symbols m b next es)) (ap (λ (b : Bool). is_inside m b e) (sym t) ∙ inside_is here e) in
          omega (arith, more, one, own)
      by false t behind =
          let more : counts_after counts here (e ∷ es) m ≡ adding here (entry_size e) counts m + length (cells_in sense symbols m (is_in m (entered here e)) a es) = behind a in
          let one : adding here (entry_size e) counts m ≡ counts m + 0 =
          cells_added m here (entry_size e) counts ∙ ap (λ (b : Bool). counts m + cond b (entry_size e) 0) t in
          let own : length (cells_in sense symbols m (is_in m here) a (e ∷ es)) ≡ length (cells_in sense symbols m (is_in m (entered here e)) a es) =
          ap (λ (b : Bool). length (cells_in sense symbols m b a (e ∷ es))) t
          ∙ ap (λ (b : Bool). length (cells_in sense symbols m b a es)) (ap (λ (b : Bool). is_inside m b e) (sym t) ∙ inside_is here e) in
          omega (arith, more, one, own)
