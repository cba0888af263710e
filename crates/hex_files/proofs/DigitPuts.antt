-- Digits and bytes put one by one.
use Rattle.std.proofs.Common.{◌≡◌, ℕ, zero, suc, ◌+◌, ◌-◌, ◌*◌, ◌/◌, ◌%◌, ◌<◌, ◌≤◌, false, List, [], ◌∷◌, ◌++◌, length, length-append, refl, ap, ◌∙◌, arith, append_assoc}
use Rattle.std.specs.List.{flat_map}
use Rattle.std.proofs.Math.Nat.{mul-le-mul_left}
use Rattle.std.specs.Fmt.{digit_glyph}
use Rattle.hex_files.specs.MemhText.{fixed_digits}
use Rattle.hex_files.specs.HexText.{low_bytes}

pub digit_put : (o a b : List ℕ) (k v g : ℕ) → 0 < k → a ≡ o ++ fixed_digits (k - 1) (v / 16) → g ≡ digit_glyph false (v % 16) → b ≡ a ++ g ∷ [] → b ≡ o ++ fixed_digits k v
unfolding fixed_digits
digit_put o a b zero v g pos pa pg pb = absurd (omega arith)
digit_put o a b (suc k) v g pos pa pg pb =
    pb ∙ ap (λ (d : ℕ). a ++ d ∷ []) pg ∙ ap (λ (t : List ℕ). t ++ digit_glyph false (v % 16) ∷ []) (pa ∙ (let e : suc k - 1 ≡ k = omega arith in ap (λ (n : ℕ). o ++ fixed_digits n (v / 16)) e))
    ∙ append_assoc o (fixed_digits k (v / 16)) (digit_glyph false (v % 16) ∷ [])

pub byte_put : (o a b : List ℕ) (k v g : ℕ) → 0 < k → g ≡ v % 256 → a ≡ o ++ g ∷ [] → b ≡ a ++ low_bytes (k - 1) (v / 256) → b ≡ o ++ low_bytes k v
unfolding low_bytes
byte_put o a b zero v g pos pg pa pb = absurd (omega arith)
byte_put o a b (suc k) v g pos pg pa pb =
    pb ∙ (let e : suc k - 1 ≡ k = omega arith in ap (λ (n : ℕ). a ++ low_bytes n (v / 256)) e)
    ∙ ap (λ (t : List ℕ). t ++ low_bytes k (v / 256)) (pa ∙ ap (λ (d : ℕ). o ++ d ∷ []) pg) ∙ append_assoc o (v % 256 ∷ []) (low_bytes k (v / 256))

pub length-low_bytes : (k v : ℕ) → length (low_bytes k v) ≡ k
unfolding low_bytes
length-low_bytes zero v = refl
length-low_bytes (suc k) v = ap suc (length-low_bytes k (v / 256))

pub length-bytes : (k : ℕ) (cs : List ℕ) → length (flat_map (low_bytes k) cs) ≡ k * length cs
length-bytes k [] = omega arith
length-bytes k (c ∷ cs) =
    let e : k * suc (length cs) ≡ k + k * length cs = omega arith in
    omega (arith, length-append (low_bytes k c) (flat_map (low_bytes k) cs), length-low_bytes k c, length-bytes k cs, e)

-- the bytes of all cells are few
pub few_bytes : (k : ℕ) (cs bytes : List ℕ) → bytes ≡ flat_map (low_bytes k) cs → k ≤ 8 → length cs ≤ 1048576 → length bytes ≤ 8388608
few_bytes k cs bytes e few le = omega (arith, ap length e, length-bytes k cs, mul-le-mul_left k le, mul-le-mul_left 1048576 few)
