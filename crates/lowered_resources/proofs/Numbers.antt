-- Where there are fewer resources than numbers of 32 bits, their places are such numbers.
use Rattle.std.proofs.Common.{◌≡◌, ◌<◌, ◌≤◌, ◌^◌, ◌∙◌, ℕ, zero, suc, List, [], ◌∷◌, Option, None, Some, length, filter_map, min, map, sym, ap, subst, arith, ⊎_elim}
use Rattle.std.specs.Prelude.{slice_get, take, option_map}
use Rattle.std.specs.List.{cons_option}
use Rattle.std.proofs.lemmas.Bool.{cases_lt}
use Rattle.std.proofs.lemmas.List.{length-take}
use Rattle.std.proofs.lemmas.Option.{slice_get_within, slice_get-get_or}
use Rattle.lisa_tree.specs.Descriptions.{ResourceTree, DescriptionTree}
use Rattle.meaning_promises.specs.machine_parts.Parts.{array_in, arrays_of, pin_in, register_in}
use Rattle.scene_paths.specs.lisa_meaning.Values.{register_place, pin_place}

few_parts : {P : Type 0} (part : ResourceTree → Option P) (rs : List ResourceTree) → length (filter_map part rs) ≤ length rs
few_parts part [] = omega arith
few_parts {P = P} part (r ∷ rs) = by (part r) (few_parts part rs)
  where
    by : (o : Option P) → length (filter_map part rs) ≤ length rs → length (cons_option o (filter_map part rs)) ≤ suc (length rs)
    by None low = omega (arith, low)
    by (Some p) low = omega (arith, low)

few_before : {P : Type 0} (part : ResourceTree → Option P) (rs : List ResourceTree) (k : ℕ) → length (filter_map part (take k rs)) ≤ length rs
few_before part rs k =
    let low = few_parts part (take k rs) in
    let taken = length-take k rs in
    omega (arith, low, taken)

module _ (d : DescriptionTree) (few : length d.resources < 2 ^ 32) where
  pub register_low : (k place : ℕ) → place ≡ register_place d k → place < 2 ^ 32
  register_low k place at = let low = few_before register_in d.resources k in omega (arith, few, low, at)

  pub pin_low : (k place : ℕ) → place ≡ pin_place d k → place < 2 ^ 32
  pin_low k place at = let low = few_before pin_in d.resources k in omega (arith, few, low, at)

  pub arrays_low : length (arrays_of d) < 2 ^ 32
  arrays_low = let low = few_parts array_in d.resources in omega (arith, few, low)

-- there is none of a number, so there are no more
pub no_more : (rs : List ResourceTree) (k : ℕ) → slice_get rs k ≡ None → length rs ≤ k
no_more [] k none = omega arith
no_more (r ∷ rs) zero none = absurd (cc none)
no_more (r ∷ rs) (suc k) none = let low = no_more rs k none in omega (arith, low)
