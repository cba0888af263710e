-- Numbers that words write, by their tests.
use Rattle.std.proofs.Common.{◌≡◌, ℕ, ◌^◌, ◌<◌, Bool, true, cond, List, [], ◌∷◌, length, refl, sym, ap, ◌∙◌, ⊎_elim, Option, Some, None}
use Rattle.std.specs.Prelude.{SomeIff, nat_lt, ◌&&◌}
use Rattle.std.specs.Char.{digit_value}
use Rattle.std.specs.List.{list_all}
use Rattle.std.specs.Str.Parse.{AllDigits, digits_value}
use Rattle.std.proofs.lemmas.Bool.{cases_Bool, and_parts, and_from, ltb-true, lt-ltb}
use Rattle.lisa_words.specs.Numerals.{IsNumeralBelow}
use Rattle.vcd_trace.specs.Parts.{numeral_of, bits_of, is_binary}

pub digits_pass : (radix : ℕ) (word : List ℕ) → AllDigits radix word → list_all (λ c. nat_lt (digit_value c) radix) word ≡ true
digits_pass radix [] h = refl
digits_pass radix (c ∷ cs) h = and_from _ _ (lt-ltb (digit_value c) radix h.0) (digits_pass radix cs h.1)

pub pass_digits : (radix : ℕ) (word : List ℕ) → list_all (λ c. nat_lt (digit_value c) radix) word ≡ true → AllDigits radix word
pass_digits radix [] h = tt
pass_digits radix (c ∷ cs) h =
    let parts = and_parts (nat_lt (digit_value c) radix) (list_all (λ c. nat_lt (digit_value c) radix) cs) h in
    (ltb-true (digit_value c) radix parts.0, pass_digits radix cs parts.1)

test : List ℕ → Bool
test word = nat_lt 0 (length word) && (list_all (λ c. nat_lt (digit_value c) 10) word && nat_lt (digits_value 10 word) (2 ^ 64))

passes : (word : List ℕ) → IsNumeralBelow 10 (2 ^ 64) word → test word ≡ true
unfolding test
passes word h = and_from _ _ (lt-ltb 0 (length word) h.0.0) (and_from _ _ (digits_pass 10 word h.0.1) (lt-ltb (digits_value 10 word) (2 ^ 64) h.1))

from_pass : (word : List ℕ) → test word ≡ true → IsNumeralBelow 10 (2 ^ 64) word
unfolding test
from_pass word h =
    let a = and_parts (nat_lt 0 (length word)) (list_all (λ c. nat_lt (digit_value c) 10) word && nat_lt (digits_value 10 word) (2 ^ 64)) h in
    let b = and_parts (list_all (λ c. nat_lt (digit_value c) 10) word) (nat_lt (digits_value 10 word) (2 ^ 64)) a.1 in
    ((ltb-true 0 (length word) a.0, pass_digits 10 word b.0), ltb-true (digits_value 10 word) (2 ^ 64) b.1)

pub numeral_is : (r : Option ℕ) (word : List ℕ) → SomeIff r (IsNumeralBelow 10 (2 ^ 64) word) (digits_value 10 word) → r ≡ numeral_of word
unfolding test
numeral_is None word h = ⊎_elim (λ t. absurd (h (from_pass word t))) (λ f. sym (ap (λ (b : Bool). cond b (Some (digits_value 10 word)) None) f)) (cases_Bool (test word))
numeral_is (Some n) word h = ap (λ (k : ℕ). Some k) h.1 ∙ sym (ap (λ (b : Bool). cond b (Some (digits_value 10 word)) None) (passes word h.0))

-- ---- binary digits

binary_numeral : (word : List ℕ) → is_binary word ≡ true → (0 < length word) × AllDigits 2 word
binary_numeral word h =
    let parts = and_parts (nat_lt 0 (length word)) (list_all (λ c. nat_lt (digit_value c) 2) word) h in
    (ltb-true 0 (length word) parts.0, pass_digits 2 word parts.1)

pub binary_some : (word : List ℕ) → is_binary word ≡ true → 0 < length word
binary_some word h = (binary_numeral word h).0

pub bits_none : (word : List ℕ) → is_binary word ≡ true → (IsNumeralBelow 2 (2 ^ 64) word → ⊥) → None ≡ bits_of word
bits_none word h none = ⊎_elim
    (λ t. absurd (none (binary_numeral word h, ltb-true (digits_value 2 word) (2 ^ 64) t)))
    (λ f. sym (ap (λ (b : Bool). cond b (Some (digits_value 2 word)) None) f))
    (cases_Bool (nat_lt (digits_value 2 word) (2 ^ 64)))

pub bits_some : (word : List ℕ) (n : ℕ) → IsNumeralBelow 2 (2 ^ 64) word × (n ≡ digits_value 2 word) → Some n ≡ bits_of word
bits_some word n h = ap (λ (k : ℕ). Some k) h.1 ∙ sym (ap (λ (b : Bool). cond b (Some (digits_value 2 word)) None) (lt-ltb (digits_value 2 word) (2 ^ 64) h.0.1))
