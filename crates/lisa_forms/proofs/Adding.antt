-- Values are added at their places.
use Rattle.std.proofs.Common.{◌≡◌, ◌<◌, ◌≤◌, ◌+◌, ◌*◌, ◌%◌, ◌^◌, ℕ, zero, suc, List, [], ◌∷◌, length, map, drop, get_or, refl, sym, ap, ◌∙◌, arith}
use Rattle.std.specs.Prelude.{slice_index_or, vec_len}
use Rattle.std.specs.Global.{Vec}
use Rattle.std.proofs.lemmas.List.{length-map, get_or-map}
use Rattle.std.proofs.lemmas.Nat.{pow-add}
use Rattle.std.proofs.Math.Nat.{mul-lt-mul_of_pos_right, mod-eq_of_lt}
use Rattle.std.proofs.Math.Pow.{pow_mono}
use Rattle.instruction_trees.specs.Values.{AreWithin}
use Rattle.pattern_tables.specs.declared.bit_pattern.BitPattern.{BitPattern}
use Rattle.pattern_tables.specs.declared.fields.Place.{Place}
use Rattle.pattern_tables.specs.Places.{pair_of}
use Rattle.pattern_tables.proofs.Weighing.{weights, Added}
use Rattle.form_patterns.specs.Rows.{pairs_at}
use Rattle.form_patterns.proofs.Rowed.{row_at, level}
use Rattle.lisa_forms.specs.Rows.{pattern_at}

-- ---- one value

pub in_word : (v lsb width : ℕ) → v < 2 ^ width → lsb + width ≤ 64 → v * 2 ^ lsb < 2 ^ 64
in_word v lsb width below inside =
    let one : 2 ^ 0 ≤ 2 ^ lsb = pow_mono {i = 0} {j = lsb} (omega arith) in
    let a : v * 2 ^ lsb < 2 ^ width * 2 ^ lsb = mul-lt-mul_of_pos_right {m = v} {n = 2 ^ width} {k = 2 ^ lsb} below (omega (arith, one)) in
    let b : 2 ^ (width + lsb) ≡ 2 ^ width * 2 ^ lsb = pow-add 2 width lsb in
    let c : 2 ^ (width + lsb) ≤ 2 ^ 64 = pow_mono {i = width + lsb} {j = 64} (omega (arith, inside)) in
    omega (arith, a, b, c)

pub whole : (v lsb width : ℕ) → v < 2 ^ width → lsb + width ≤ 64 → v * 2 ^ lsb % 18446744073709551616 ≡ v * 2 ^ lsb
whole v lsb width below inside = mod-eq_of_lt (in_word v lsb width below inside)

-- ---- all values

no_weights : (vs : List ℕ) (ps : List Place) (i : ℕ) → length vs ≡ length ps → length ps ≤ i → weights (drop i vs) (drop i ps) ≡ 0
no_weights [] [] zero l h = refl
no_weights [] [] (suc i) l h = refl
no_weights [] (p ∷ ps) i l h = absurd (cc l)
no_weights (v ∷ vs) [] i l h = absurd (cc l)
no_weights (v ∷ vs) (p ∷ ps) zero l h = absurd (omega (arith, h))
no_weights (v ∷ vs) (p ∷ ps) (suc i) l h = no_weights vs ps i (omega (arith, l)) (omega (arith, h))

pub all_added : (pattern : ℕ) (vs : List ℕ) (ps : List Place) (i word : ℕ) → AreWithin vs (map pair_of ps) → length ps ≤ i → Added pattern vs ps i word → word ≡ pattern + weights vs ps
all_added pattern vs ps i word w h a = let left = a.left in let n = no_weights vs ps i (level vs ps w) h in omega (arith, left, n)

-- ---- rows

pub bits_at : (ps : List BitPattern) (k : ℕ) (p : BitPattern) → k < length ps → p ≡ get_or ps k p → pattern_at ps k ≡ p.pattern
bits_at ps k p h is = get_or-map (λ (q : BitPattern). q.pattern) ps k p 0 h ∙ ap (λ (q : BitPattern). q.pattern) (sym is)

pub pair_at : (ps : List Place) (i : ℕ) (p : Place) → i < length ps → p ≡ get_or ps i p → slice_index_or (map pair_of ps) i (0, 0) ≡ pair_of p
pair_at ps i p h is = get_or-map pair_of ps i p (0, 0) h ∙ ap pair_of (sym is)

-- a field's place stands in its form's row
pub field_inside : (rows : List (Vec Place)) (k i : ℕ) (row : Vec Place) → k < length rows → row ≡ get_or rows k row → i < length (pairs_at rows k) → i < vec_len row
field_inside rows k i row h is l =
    let m : length (pairs_at rows k) ≡ length row.items = ap length (row_at rows k row h is) ∙ length-map row.items pair_of in
    omega (arith, l, m, row.ok.0)

pub field_at : (rows : List (Vec Place)) (k i : ℕ) (row : Vec Place) (p : Place) → k < length rows → row ≡ get_or rows k row → i < length (pairs_at rows k) → p ≡ get_or row.items i p
    → slice_index_or (pairs_at rows k) i (0, 0) ≡ pair_of p
field_at rows k i row p h is l at =
    let within = field_inside rows k i row h is l in
    ap (λ (xs : List (ℕ × ℕ)). slice_index_or xs i (0, 0)) (row_at rows k row h is) ∙ pair_at row.items i p (omega (arith, within, row.ok.0)) at
