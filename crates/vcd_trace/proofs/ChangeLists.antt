-- Lists of values with their places, one more at a time.
use Rattle.std.proofs.Common.{◌≡◌, ℕ, ◌+◌, ◌<◌, ◌≤◌, Bool, cond, List, [], ◌∷◌, ◌++◌, length, take, get_or, sym, ap, ◌∙◌, arith}
use Rattle.std.specs.List.{flat_map, zip, enumerate_from}
use Rattle.std.proofs.lemmas.Bool.{eq-eqb, ne_eqb}
use Rattle.std.proofs.lemmas.Grind.{flat_map-append}
use Rattle.std.proofs.lemmas.List.{append-nil, take_more, take_all}
use Rattle.std.proofs.lemmas.List.FromFn.{get_or-enumerate_from, length-enumerate_from}
use Rattle.std.proofs.lemmas.Slice.Zip.{get_or-zip, length-zip}
use Rattle.vcd_trace.specs.Meaning.{if_changed, changes_between}

pub enum_more : (vs : List ℕ) (i : ℕ) → i < length vs → take i (enumerate_from 0 vs) ++ (i, get_or vs i 0) ∷ [] ≡ take (i + 1) (enumerate_from 0 vs)
enum_more vs i within =
    let none : 0 + i ≡ i = omega arith in
    sym (take_more (enumerate_from 0 vs) i (i, 0) (omega (arith, length-enumerate_from 0 vs))
    ∙ ap (λ (x : ℕ × ℕ). take i (enumerate_from 0 vs) ++ x ∷ []) (get_or-enumerate_from 0 vs i (i, 0) within ∙ (λ j. (none j, get_or vs i 0))))

pub enum_whole : (vs : List ℕ) (i : ℕ) → length vs ≤ i → take i (enumerate_from 0 vs) ≡ enumerate_from 0 vs
enum_whole vs i all = take_all i (enumerate_from 0 vs) (omega (arith, length-enumerate_from 0 vs))

module _ (before now : List ℕ) (i : ℕ) (same : length before ≡ length now) where
  one_more : i < length now → flat_map if_changed (take (i + 1) (enumerate_from 0 (zip before now))) ≡ flat_map if_changed (take i (enumerate_from 0 (zip before now))) ++ if_changed (i, (get_or before i 0, get_or now i 0))
  one_more within =
      let none : 0 + i ≡ i = omega arith in
      let long : length (zip before now) ≡ length now = omega (arith, length-zip before now, same) in
      let here : i < length (zip before now) = omega (arith, long) in
      let pair : get_or (enumerate_from 0 (zip before now)) i (i, (0, 0)) ≡ (i, (get_or before i 0, get_or now i 0))
      = get_or-enumerate_from 0 (zip before now) i (i, (0, 0)) here ∙ (λ j. (none j, get_or-zip before now i (0, 0) (omega (arith, same)) (omega arith) j)) in
      ap (flat_map if_changed) (take_more (enumerate_from 0 (zip before now)) i (i, (0, 0)) (omega (arith, length-enumerate_from 0 (zip before now), long)))
      ∙ flat_map-append if_changed (take i (enumerate_from 0 (zip before now))) (get_or (enumerate_from 0 (zip before now)) i (i, (0, 0)) ∷ [])
      ∙ ap (λ (x : ℕ × (ℕ × ℕ)). flat_map if_changed (take i (enumerate_from 0 (zip before now))) ++ (if_changed x ++ [])) pair
      ∙ ap (λ (l : List (ℕ × ℕ)). flat_map if_changed (take i (enumerate_from 0 (zip before now))) ++ l) (append-nil (if_changed (i, (get_or before i 0, get_or now i 0))))

  pub between_yes : i < length now → (get_or before i 0 ≡ get_or now i 0 → ⊥)
      → flat_map if_changed (take i (enumerate_from 0 (zip before now))) ++ (i, get_or now i 0) ∷ [] ≡ flat_map if_changed (take (i + 1) (enumerate_from 0 (zip before now)))
  between_yes within apart =
      sym (one_more within ∙ ap (λ (b : Bool). flat_map if_changed (take i (enumerate_from 0 (zip before now))) ++ cond b [] ((i, get_or now i 0) ∷ [])) (ne_eqb (get_or before i 0) (get_or now i 0) apart))

  pub between_no : i < length now → get_or before i 0 ≡ get_or now i 0
      → flat_map if_changed (take i (enumerate_from 0 (zip before now))) ≡ flat_map if_changed (take (i + 1) (enumerate_from 0 (zip before now)))
  between_no within equal =
      sym (one_more within ∙ ap (λ (b : Bool). flat_map if_changed (take i (enumerate_from 0 (zip before now))) ++ cond b [] ((i, get_or now i 0) ∷ [])) (eq-eqb (get_or before i 0) (get_or now i 0) equal)
      ∙ append-nil (flat_map if_changed (take i (enumerate_from 0 (zip before now)))))

  pub between_whole : length now ≤ i → flat_map if_changed (take i (enumerate_from 0 (zip before now))) ≡ changes_between before now
  between_whole all = ap (flat_map if_changed) (take_all i (enumerate_from 0 (zip before now)) (omega (arith, length-enumerate_from 0 (zip before now), length-zip before now, same)))
