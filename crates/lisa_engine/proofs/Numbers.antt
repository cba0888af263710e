-- The numbers of a schedule, by their tests.
use Rattle.std.proofs.Common.{◌≡◌, ℕ, ◌^◌, ◌<◌, Bool, true, List, [], ◌∷◌, length, refl, sym, ap, ◌∙◌, ⊎_elim, Option, Some, None}
use Rattle.std.specs.Prelude.{IfSome, SomeIff, nat_lt, ◌&&◌, decimal}
use Rattle.std.specs.Char.{digit_value}
use Rattle.std.specs.List.{list_all}
use Rattle.std.specs.Str.{bytes_eq}
use Rattle.std.specs.Str.Parse.{AllDigits, digits_value}
use Rattle.std.proofs.lemmas.Bool.{cases_Bool, and_parts, and_from, ltb-true, lt-ltb}
use Rattle.std.proofs.lemmas.Option.{none-some}
use Rattle.std.proofs.lemmas.Bool.Decides.{Decides-eqb}
use Rattle.std.proofs.lemmas.Slice.Eq.{slice_eq-Decides}
use Rattle.lisa_words.specs.Numerals.{IsNumeralBelow}
use Rattle.lisa_words.proofs.Readings.{written_decimal}
use Rattle.lisa_engine.specs.Schedules.{hex_number, decimal_number}

digits_pass : (word : List ℕ) → AllDigits 16 word → list_all (λ c. nat_lt (digit_value c) 16) word ≡ true
digits_pass [] h = refl
digits_pass (c ∷ cs) h = and_from _ _ (lt-ltb (digit_value c) 16 h.0) (digits_pass cs h.1)

pass_digits : (word : List ℕ) → list_all (λ c. nat_lt (digit_value c) 16) word ≡ true → AllDigits 16 word
pass_digits [] h = tt
pass_digits (c ∷ cs) h =
    let parts = and_parts (nat_lt (digit_value c) 16) (list_all (λ c. nat_lt (digit_value c) 16) cs) h in
    (ltb-true (digit_value c) 16 parts.0, pass_digits cs parts.1)

hex_test : List ℕ → Bool
hex_test word = nat_lt 0 (length word) && (list_all (λ c. nat_lt (digit_value c) 16) word && nat_lt (digits_value 16 word) (2 ^ 64))

hex_passes : (word : List ℕ) → IsNumeralBelow 16 (2 ^ 64) word → hex_test word ≡ true
unfolding hex_test
hex_passes word h = and_from _ _ (lt-ltb 0 (length word) h.0.0) (and_from _ _ (digits_pass word h.0.1) (lt-ltb (digits_value 16 word) (2 ^ 64) h.1))

hex_from_pass : (word : List ℕ) → hex_test word ≡ true → IsNumeralBelow 16 (2 ^ 64) word
unfolding hex_test
hex_from_pass word h =
    let a = and_parts (nat_lt 0 (length word)) (list_all (λ c. nat_lt (digit_value c) 16) word && nat_lt (digits_value 16 word) (2 ^ 64)) h in
    let b = and_parts (list_all (λ c. nat_lt (digit_value c) 16) word) (nat_lt (digits_value 16 word) (2 ^ 64)) a.1 in
    ((ltb-true 0 (length word) a.0, pass_digits word b.0), ltb-true (digits_value 16 word) (2 ^ 64) b.1)

pub hex_is : (r : Option ℕ) (word : List ℕ) → SomeIff r (IsNumeralBelow 16 (2 ^ 64) word) (digits_value 16 word) → r ≡ hex_number word
unfolding hex_test
hex_is None word h = ⊎_elim (λ t. absurd (h (hex_from_pass word t))) (λ f. rw f refl) (cases_Bool (hex_test word))
hex_is (Some n) word h = rw (hex_passes word h.0) (ap Some h.1)

decimal_test : List ℕ → Bool
decimal_test word = nat_lt (digits_value 10 word) (2 ^ 64) && bytes_eq word (decimal (digits_value 10 word))

pub same_bytes : (xs ys : List ℕ) → xs ≡ ys → bytes_eq xs ys ≡ true
same_bytes xs ys e = (slice_eq-Decides Decides-eqb xs ys (bytes_eq xs ys) refl).1 e

pub decimal_is : (r : Option ℕ) (word : List ℕ) → IfSome r (λ n. n < 2 ^ 64) → IfSome r (λ n. word ≡ decimal n) → ((n : ℕ) → n < 2 ^ 64 → word ≡ decimal n → r ≡ Some n) → r ≡ decimal_number word
unfolding decimal_test
decimal_is None word fits read found = ⊎_elim
    (λ t. let parts = and_parts (nat_lt (digits_value 10 word) (2 ^ 64)) (bytes_eq word (decimal (digits_value 10 word))) t in
    absurd (none-some (digits_value 10 word) (found (digits_value 10 word) (ltb-true (digits_value 10 word) (2 ^ 64) parts.0)
    ((slice_eq-Decides Decides-eqb word (decimal (digits_value 10 word)) true (sym parts.1)).0 refl))))
    (λ f. rw f refl)
    (cases_Bool (decimal_test word))
decimal_is (Some n) word fits read found =
    let written = written_decimal n word fits read in
    let passes : decimal_test word ≡ true
    = and_from _ _ (lt-ltb (digits_value 10 word) (2 ^ 64) written.0.1) (same_bytes word (decimal (digits_value 10 word)) (read ∙ ap decimal (sym written.1))) in
    rw passes (ap Some (sym written.1))
