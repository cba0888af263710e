-- Words that are numbers' texts.
use Rattle.std.proofs.Common.{◌≡◌, ℕ, ◌+◌, ◌^◌, ◌<◌, ◌≤◌, Bool, true, false, cond, List, [], ◌∷◌, length, Option, Some, None, refl, sym, ap, subst, ◌∙◌, arith}
use Rattle.std.specs.Prelude.{IfSome, ◌&&◌, nat_lt, decimal}
use Rattle.std.specs.Str.{bytes_eq}
use Rattle.std.specs.Str.Parse.{digits_value}
use Rattle.std.proofs.lemmas.Bool.{and_parts, and_from, lt-ltb}
use Rattle.std.proofs.lemmas.Bool.Decides.{nat_tests}
use Rattle.std.proofs.lemmas.Slice.Eq.{bytes_eq-Decides}
use Rattle.lisa_words.proofs.Readings.{written_decimal, written_hex}
use Rattle.lisa_object.specs.Texts.{hex}
use Rattle.std.proofs.lemmas.Fmt.{decimal_is_IsNumeral_wide}
use Rattle.lisa_object.specs.Reading.{Word, written, decimal_of, hex_of}
use Rattle.lisa_object.specs.ObjectReading.{wide_of}

pub same_bytes : (xs ys : Word) → xs ≡ ys → bytes_eq xs ys ≡ true
same_bytes xs ys e = (bytes_eq-Decides xs ys).1 e

pub bytes_same : (xs ys : Word) → bytes_eq xs ys ≡ true → xs ≡ ys
bytes_same xs ys e = (bytes_eq-Decides xs ys).0 e

below : (m n : ℕ) → nat_lt m n ≡ true → m < n
below m n e = grind (arith, nat_tests)

-- what a text stands for is what it was written for
module _ (bound : ℕ) (text : ℕ → Word) (value : Word → ℕ) (reads : (n : ℕ) (word : Word) → n < bound → word ≡ text n → value word ≡ n) where
  pub written_there : (n : ℕ) (word : Word) → n < bound → word ≡ text n → written bound text (value word) word ≡ Some n
  written_there n word lt is =
      let same : value word ≡ n = reads n word lt is in
      let passes : nat_lt n bound && bytes_eq (text n) word ≡ true = and_from _ _ (lt-ltb n bound lt) (same_bytes (text n) word (sym is)) in
      rw (same, passes) refl

  pub written_back : (n : ℕ) (word : Word) → written bound text (value word) word ≡ Some n → (n < bound) × (word ≡ text n)
  written_back n word e = go (nat_lt (value word) bound && bytes_eq (text (value word)) word) refl e
    where
      go : (t : Bool) → nat_lt (value word) bound && bytes_eq (text (value word)) word ≡ t → cond t (Some (value word)) None ≡ Some n → (n < bound) × (word ≡ text n)
      go true is same =
          let p = and_parts (nat_lt (value word) bound) (bytes_eq (text (value word)) word) is in
          let number : value word ≡ n = cc in
          (subst (λ (k : ℕ). k < bound) number (below (value word) bound p.0), sym (bytes_same (text (value word)) word p.1) ∙ ap text number)
      go false is same = absurd cc

  pub written_is : (r : Option ℕ) (word : Word) → IfSome r (λ n. n < bound) → IfSome r (λ n. word ≡ text n) → ((n : ℕ) → n < bound → word ≡ text n → r ≡ Some n) → r ≡ written bound text (value word) word
  written_is (Some n) word small read found = sym (written_there n word small read)
  written_is None word small read found = go (written bound text (value word) word) refl
    where
      go : (q : Option ℕ) → written bound text (value word) word ≡ q → ◌≡◌ {A = Option ℕ} None (written bound text (value word) word)
      go None e = sym e
      go (Some n) e = let b = written_back n word e in absurd (let f = found n b.0 b.1 in cc)

decimal_reads : (n : ℕ) (word : Word) → n < 2 ^ 64 → word ≡ decimal n → digits_value 10 word ≡ n
decimal_reads n word lt is = (written_decimal n word lt is).1

hex_reads : (n : ℕ) (word : Word) → n < 2 ^ 64 → word ≡ hex n → digits_value 16 word ≡ n
hex_reads n word lt is = (written_hex n word lt is).1

pub decimal_is : (r : Option ℕ) (word : Word) → IfSome r (λ n. n < 2 ^ 64) → IfSome r (λ n. word ≡ decimal n) → ((n : ℕ) → n < 2 ^ 64 → word ≡ decimal n → r ≡ Some n) → r ≡ decimal_of word
unfolding decimal_of
decimal_is = written_is (2 ^ 64) decimal (digits_value 10) decimal_reads

pub hex_is : (r : Option ℕ) (word : Word) → IfSome r (λ n. n < 2 ^ 64) → IfSome r (λ n. word ≡ hex n) → ((n : ℕ) → n < 2 ^ 64 → word ≡ hex n → r ≡ Some n) → r ≡ hex_of word
unfolding hex_of
hex_is = written_is (2 ^ 64) hex (digits_value 16) hex_reads

pub decimal_there : (n : ℕ) → n < 2 ^ 64 → decimal_of (decimal n) ≡ Some n
unfolding decimal_of
decimal_there n lt = written_there (2 ^ 64) decimal (digits_value 10) decimal_reads n (decimal n) lt refl

pub decimal_back : (n : ℕ) (word : Word) → decimal_of word ≡ Some n → (n < 2 ^ 64) × (word ≡ decimal n)
unfolding decimal_of
decimal_back n word e = written_back (2 ^ 64) decimal (digits_value 10) decimal_reads n word e

pub hex_there : (n : ℕ) → n < 2 ^ 64 → hex_of (hex n) ≡ Some n
unfolding hex_of
hex_there n lt = written_there (2 ^ 64) hex (digits_value 16) hex_reads n (hex n) lt refl

pub hex_back : (n : ℕ) (word : Word) → hex_of word ≡ Some n → (n < 2 ^ 64) × (word ≡ hex n)
unfolding hex_of
hex_back n word e = written_back (2 ^ 64) hex (digits_value 16) hex_reads n word e

-- ---- wider numbers

wide_reads : (n : ℕ) (word : Word) → n < 10 ^ 21 → word ≡ decimal n → digits_value 10 word ≡ n
wide_reads n word lt is = ap (digits_value 10) is ∙ (decimal_is_IsNumeral_wide n (omega arith)).1

pub wide_is : (r : Option ℕ) (word : Word) → IfSome r (λ n. n < 10 ^ 21) → IfSome r (λ n. word ≡ decimal n) → ((n : ℕ) → n < 10 ^ 21 → word ≡ decimal n → r ≡ Some n) → r ≡ wide_of word
unfolding wide_of
wide_is = written_is (10 ^ 21) decimal (digits_value 10) wide_reads

pub wide_there : (n : ℕ) → n < 10 ^ 21 → wide_of (decimal n) ≡ Some n
unfolding wide_of
wide_there n lt = written_there (10 ^ 21) decimal (digits_value 10) wide_reads n (decimal n) lt refl

pub wide_back : (n : ℕ) (word : Word) → wide_of word ≡ Some n → (n < 10 ^ 21) × (word ≡ decimal n)
unfolding wide_of
wide_back n word e = written_back (10 ^ 21) decimal (digits_value 10) wide_reads n word e
