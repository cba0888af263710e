-- Values are added at their places.
use Rattle.std.proofs.Common.{◌≡◌, ℕ, zero, suc, ◌+◌, ◌-◌, ◌*◌, ◌/◌, ◌%◌, ◌^◌, ◌<◌, ◌≤◌, List, [], ◌∷◌, length, drop, map, refl, ap, ◌∙◌, arith}
use Rattle.std.specs.Prelude.{bit_and, slice_index, slice_index_or}
use Rattle.std.proofs.lemmas.Nat.{and_mask}
use Rattle.std.proofs.lemmas.Nat.Bits.{ones_shr}
use Rattle.instruction_trees.specs.Values.{sum_of, weigh}
use Rattle.pattern_tables.specs.declared.fields.Place.{Place}
use Rattle.pattern_tables.specs.Places.{pair_of}

pub cut : (n width : ℕ) → width ≤ 64 → bit_and n (18446744073709551615 / 2 ^ (64 - width)) ≡ n % 2 ^ width
cut n width le =
    let e : (2 ^ 64 - 1) / 2 ^ (64 - width) ≡ 2 ^ width - 1 = ones_shr 64 (64 - width) (omega arith) ∙ ap (λ (k : ℕ). 2 ^ k - 1) (omega arith) in
    ap (bit_and n) e ∙ and_mask n width

abbrev pub weights : List ℕ → List Place → ℕ
weights vs ps = sum_of (weigh vs (map pair_of ps))

-- the word so far and what is left
pub record Added (pattern : ℕ) (fields : List ℕ) (places : List Place) (i word : ℕ) : Type 0 where
  pub left : word + weights (drop i fields) (drop i places) ≡ pattern + weights fields places

pub weights_drop : (vs : List ℕ) (ps : List Place) (i : ℕ) (d : Place) → i < length vs → length vs ≡ length ps
    → weights (drop i vs) (drop i ps) ≡ slice_index vs i * 2 ^ (slice_index_or ps i d).lsb + weights (drop (suc i) vs) (drop (suc i) ps)
weights_drop [] ps i d h l = absurd (omega arith)
weights_drop (v ∷ vs) [] i d h l = absurd cc
weights_drop (v ∷ vs) (p ∷ ps) zero d h l = refl
weights_drop (v ∷ vs) (p ∷ ps) (suc i) d h l = weights_drop vs ps i d (omega arith) (omega arith)
