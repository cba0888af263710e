-- What a value's numeral is.
use Rattle.std.proofs.Common.{◌≡◌, ℕ, zero, suc, ◌+◌, ◌*◌, ◌^◌, ◌<◌, ◌≤◌, Bool, true, false, not, cond, List, [], ◌∷◌, length, map, refl, sym, ap, ap₂, ◌∙◌, subst, arith, nat_eq, nat_lt, inl, inr, ◌⊎◌}
use Rattle.std.proofs.lemmas.List.{length-map}
use Rattle.std.proofs.Math.Nat.{pow-zero, pow-suc}
use Rattle.std.proofs.Common.{get_or}
use Rattle.std.specs.Int.Digits.{digits_of, AllBelowBase, number_from_digits_after}
use Rattle.std.proofs.lemmas.Int.Digits.{number_digits_of, all_below_base_digits_of, first_digits_of}
use Rattle.std.proofs.lemmas.Bool.{cases_eq, ne_eqb, and_from, lt-ltb}
use Rattle.std.proofs.lemmas.Bool.Decides.{nat_tests}
use Rattle.instruction_texts.specs.Runs.{digit, base_of, value, all_digits, is_plain}
use Rattle.instruction_texts.specs.Written.{char_of, numeral}

digit_char : (d : ℕ) → d < 16 → digit (char_of d) ≡ d
digit_char d h = grind (arith, nat_tests)

abbrev first_of : List ℕ → ℕ
first_of [] = 0
first_of (d ∷ ds) = d

abbrev All16 : List ℕ → Type 0
All16 [] = Unit {0}
All16 (d ∷ ds) = d < 16

ne_false : (d : ℕ) → 0 < d → not (nat_eq d 0) ≡ true
ne_false zero h = absurd (omega arith)
ne_false (suc d) h = rw (ne_eqb (suc d) 0 (λ e. omega arith)) refl

-- all that is needed of a value's numeral
pub record IsNumeral (hex : Bool) (v : ℕ) (cs : List ℕ) : Type 0 where
  pub digits : all_digits (base_of hex) cs ≡ true
  pub plain : is_plain cs ≡ true
  pub is : value (base_of hex) cs ≡ v

chars_digits : (base : ℕ) → base ≤ 16 → (ds : List ℕ) → AllBelowBase base ds → all_digits base (map char_of ds) ≡ true
chars_digits base le [] all = refl
chars_digits base le (d ∷ ds) all = and_from (nat_lt (digit (char_of d)) base) (all_digits base (map char_of ds)) (rw (digit_char d (omega (arith, all.0))) (lt-ltb d base all.0)) (chars_digits base le ds all.1)

shifted : (a b d q v : ℕ) → (a * b + d) * q + v ≡ a * (q * b) + (d * q + v)
shifted a b d q v = grind arith

chars_value : (base : ℕ) → base ≤ 16 → (ds : List ℕ) (acc : ℕ) → AllBelowBase base ds → number_from_digits_after base acc ds ≡ acc * base ^ length ds + value base (map char_of ds)
chars_value base le [] acc all = let e : base ^ 0 ≡ 1 = pow-zero base in rw e (omega arith)
chars_value base le (d ∷ ds) acc all =
    let v = value base (map char_of ds) in
    let h : number_from_digits_after base (acc * base + d) ds ≡ (acc * base + d) * base ^ length ds + v = chars_value base le ds (acc * base + d) all.1 in
    let e : base ^ suc (length ds) ≡ base ^ length ds * base = pow-suc base (length ds) in
    h ∙ shifted acc base d (base ^ length ds) v ∙ ap (λ (x : ℕ). acc * x + (d * base ^ length ds + v)) (sym e)
    ∙ ap₂ (λ (x y : ℕ). acc * base ^ suc (length ds) + (x * base ^ y + v)) (sym (digit_char d (omega (arith, all.0)))) (sym (length-map ds char_of))

plain_chars : (ds : List ℕ) → All16 ds → 0 < first_of ds → is_plain (map char_of ds) ≡ true
plain_chars [] all h = absurd (omega arith)
plain_chars (d ∷ []) all h = refl
plain_chars (d ∷ e ∷ ds) all h = rw (digit_char d all) (ne_false d h)

pub base_small : (hex : Bool) → base_of hex ≤ 16
base_small true = omega arith
base_small false = omega arith

base_two : (hex : Bool) → 2 ≤ base_of hex
base_two true = omega arith
base_two false = omega arith

zero_numeral : (hex : Bool) → IsNumeral hex 0 (48 ∷ [])
zero_numeral true = record { digits = refl; plain = refl; is = refl }
zero_numeral false = record { digits = refl; plain = refl; is = refl }

all_first : (base : ℕ) → base ≤ 16 → (ds : List ℕ) → AllBelowBase base ds → All16 ds
all_first base le [] all = tt
all_first base le (d ∷ ds) all = omega (arith, all.0)

first_is : (ds : List ℕ) → first_of ds ≡ get_or ds 0 0
first_is [] = refl
first_is (d ∷ ds) = refl

pub numeral_is : (hex : Bool) (v : ℕ) → IsNumeral hex v (numeral (base_of hex) v)
numeral_is hex v = go (cases_eq v 0) where
  go : (v ≡ 0) ⊎ (v ≡ 0 → ⊥) → IsNumeral hex v (numeral (base_of hex) v)
  go (inl e) = subst (λ (k : ℕ). IsNumeral hex k (numeral (base_of hex) k)) (sym e) (zero_numeral hex)
  go (inr ne) =
      let b = base_of hex in
      let ds = digits_of b v in
      let all : AllBelowBase b ds = all_below_base_digits_of b v (base_two hex) in
      let n : IsNumeral hex v (map char_of ds) = record {
        digits = chars_digits b (base_small hex) ds all;
        plain = plain_chars ds (all_first b (base_small hex) ds all) (subst (λ (k : ℕ). 0 < k) (sym (first_is ds)) (first_digits_of b v (base_two hex) (omega arith)));
        is = sym (chars_value b (base_small hex) ds 0 all ∙ omega arith) ∙ number_digits_of b v (base_two hex);
      } in
      subst (λ (c : Bool). IsNumeral hex v (cond c (48 ∷ []) (map char_of ds))) (sym (ne_eqb v 0 ne)) n
