-- Digests and their digits.
use Rattle.std.proofs.Common.{◌≡◌, ℕ, zero, suc, ◌+◌, ◌-◌, ◌*◌, ◌/◌, ◌%◌, ◌^◌, ◌<◌, ◌≤◌, Bool, true, false, cond, List, [], ◌∷◌, ◌++◌, length, Option, Some, None, refl, sym, ap, subst, ◌∙◌, inl, inr, arith}
use Rattle.std.specs.Prelude.{nat_lt, nat_le, ◌==◌, ◌&&◌, All}
use Rattle.std.specs.Fmt.{digit_glyph}
use Rattle.std.proofs.lemmas.Bool.{and_parts, and_from, lt-ltb, le-ltb, leb-true, eqb-true, false≢true, cases_lt, agree_below_at}
use Rattle.std.proofs.lemmas.Bool.Decides.{nat_tests}
use Rattle.std.proofs.lemmas.List.Elements.{All-nil, All-cons, All-head, All-tail}
use Rattle.lisa_object.specs.Texts.{byte_digits, digest_digits}
use Rattle.lisa_object.specs.Rules.{IsDigest}
use Rattle.lisa_object.specs.Reading.{◌>>=◌, Word, nibble, pair_of, bytes_of, digest_of}
use Rattle.lisa_object.proofs.Options.{bind_some, some_is, cond_some, guard_some}
use Rattle.lisa_object.proofs.PlainWords.{is_plain}

-- ---- one digit

abbrev is_it : Option ℕ → ℕ → Bool
is_it None n = false
is_it (Some m) n = m == n

it_is : (r : Option ℕ) (n : ℕ) → is_it r n ≡ true → r ≡ Some n
it_is None n e = absurd (false≢true e)
it_is (Some m) n e = ap (λ (k : ℕ). Some k) (eqb-true m n e)

abbrev reads_back : ℕ → Bool
reads_back d = is_it (nibble (digit_glyph false d)) d

always : ℕ → Bool
always d = true

nibble_there : (d : ℕ) → d < 16 → nibble (digit_glyph false d) ≡ Some d
unfolding always
nibble_there d lt = it_is (nibble (digit_glyph false d)) d (agree_below_at reads_back always 16 d refl lt)

pub record IsNibble (b d : ℕ) : Type 0 where
  pub glyph : b ≡ digit_glyph false d
  pub small : d < 16

low_digit : (b d : ℕ) → nat_le 48 b && nat_le b 57 ≡ true → b - 48 ≡ d → IsNibble b d
low_digit b d e is =
    let p = and_parts (nat_le 48 b) (nat_le b 57) e in
    let low : 48 ≤ b = leb-true 48 b p.0 in
    let high : b ≤ 57 = leb-true b 57 p.1 in
    let digit : d < 10 = omega arith in
    record { glyph = rw (lt-ltb d 10 digit) (omega arith); small = omega arith }

high_digit : (b d : ℕ) → nat_le 97 b && nat_le b 102 ≡ true → b - 87 ≡ d → IsNibble b d
high_digit b d e is =
    let p = and_parts (nat_le 97 b) (nat_le b 102) e in
    let low : 97 ≤ b = leb-true 97 b p.0 in
    let high : b ≤ 102 = leb-true b 102 p.1 in
    let digit : 10 ≤ d = omega arith in
    record { glyph = rw (le-ltb d 10 digit) (omega arith); small = omega arith }

nibble_back : (b d : ℕ) → nibble b ≡ Some d → IsNibble b d
nibble_back b d e = first (nat_le 48 b && nat_le b 57) refl e
  where
    second : (t : Bool) → nat_le 97 b && nat_le b 102 ≡ t → cond t (Some (b - 87)) None ≡ Some d → IsNibble b d
    second true is f = high_digit b d is (some_is (b - 87) d f)
    second false is f = absurd cc

    first : (t : Bool) → nat_le 48 b && nat_le b 57 ≡ t → cond t (Some (b - 48)) (cond (nat_le 97 b && nat_le b 102) (Some (b - 87)) None) ≡ Some d → IsNibble b d
    first true is f = low_digit b d is (some_is (b - 48) d f)
    first false is f = second (nat_le 97 b && nat_le b 102) refl f

-- ---- one byte

pair_there : (b : ℕ) (rest : Word) → b < 256 → pair_of (byte_digits b ++ rest) ≡ Some (b, rest)
pair_there b rest lt =
    let number : 16 * (b / 16) + b % 16 ≡ b = omega arith in
    rw (nibble_there (b / 16) (omega arith), nibble_there (b % 16) (omega arith)) (ap (λ (n : ℕ). Some (n, rest)) number)

record Paired (digits : Word) (b : ℕ) (rest : Word) : Type 0 where
  parts : digits ≡ byte_digits b ++ rest
  byte : b < 256

pair_back : (digits : Word) (b : ℕ) (rest : Word) → pair_of digits ≡ Some (b, rest) → Paired digits b rest
pair_back [] b rest e = absurd cc
pair_back (x ∷ []) b rest e = absurd cc
pair_back (x ∷ y ∷ more) b rest e =
    let h = bind_some (nibble x) (λ high. nibble y >>= λ low. Some (16 * high + low, more)) (b, rest) e in
    let l = bind_some (nibble y) (λ low. Some (16 * h.0 + low, more)) (b, rest) h.2 in
    let same : (16 * h.0 + l.0, more) ≡ (b, rest) = some_is (16 * h.0 + l.0, more) (b, rest) l.2 in
    let number : 16 * h.0 + l.0 ≡ b = ap (λ (p : ℕ × Word). p.0) same in
    let left : more ≡ rest = ap (λ (p : ℕ × Word). p.1) same in
    let high = nibble_back x h.0 h.1 in
    let low = nibble_back y l.0 l.1 in
    let top : h.0 ≡ b / 16 = omega (arith, number, high.small, low.small) in
    let bottom : l.0 ≡ b % 16 = omega (arith, number, high.small, low.small) in
    record {
      parts = ap (λ (g : ℕ). g ∷ y ∷ more) (high.glyph ∙ ap (digit_glyph false) top) ∙ ap (λ (g : ℕ). digit_glyph false (b / 16) ∷ g ∷ more) (low.glyph ∙ ap (digit_glyph false) bottom)
          ∙ ap (λ (l : Word). digit_glyph false (b / 16) ∷ digit_glyph false (b % 16) ∷ l) left;
      byte = omega (arith, number, high.small, low.small);
    }

-- ---- all bytes

bytes_there : (digest : List ℕ) → All (λ b. b < 256) digest → bytes_of (length digest) (digest_digits digest) ≡ Some digest
unfolding bytes_of
bytes_there [] h = refl
bytes_there (b ∷ bs) h = rw (pair_there b (digest_digits bs) (All-head (λ b. b < 256) b bs h), bytes_there bs (All-tail (λ b. b < 256) b bs h)) refl

pub record AreBytes (n : ℕ) (digits : Word) (digest : List ℕ) : Type 0 where
  pub text : digits ≡ digest_digits digest
  pub size : length digest ≡ n
  pub bytes : All (λ b. b < 256) digest

bytes_back : (n : ℕ) (digits : Word) (digest : List ℕ) → bytes_of n digits ≡ Some digest → AreBytes n digits digest
unfolding bytes_of
bytes_back zero [] digest e =
    let none : [] ≡ digest = some_is [] digest e in
    subst (λ (d : List ℕ). AreBytes zero [] d) none (record { text = refl; size = refl; bytes = All-nil (λ b. b < 256) })
bytes_back zero (x ∷ xs) digest e = absurd cc
bytes_back (suc n) digits digest e =
    let p = bind_some (pair_of digits) (λ p. bytes_of n p.1 >>= λ all. Some (p.0 ∷ all)) digest e in
    let r = bind_some (bytes_of n p.0.1) (λ all. Some (p.0.0 ∷ all)) digest p.2 in
    let same : p.0.0 ∷ r.0 ≡ digest = some_is (p.0.0 ∷ r.0) digest r.2 in
    let first = pair_back digits p.0.0 p.0.1 p.1 in
    let more = bytes_back n p.0.1 r.0 r.1 in
    subst (λ (d : List ℕ). AreBytes (suc n) digits d) same (record {
      text = first.parts ∙ ap (λ (l : Word). byte_digits p.0.0 ++ l) more.text;
      size = omega (arith, more.size);
      bytes = All-cons (λ b. b < 256) p.0.0 r.0 first.byte more.bytes;
    })

pub digest_there : (digest : List ℕ) → IsDigest digest → digest_of (digest_digits digest) ≡ Some digest
digest_there digest h = ap (λ (n : ℕ). bytes_of n (digest_digits digest)) (sym h.size) ∙ bytes_there digest h.bytes

pub digest_back : (word : Word) (digest : List ℕ) → digest_of word ≡ Some digest → (word ≡ digest_digits digest) × IsDigest digest
digest_back word digest e = let b = bytes_back 32 word digest e in (b.text, record { size = b.size; bytes = b.bytes })

glyph_plain : (d : ℕ) → nat_lt 32 (digit_glyph false d) ≡ true
glyph_plain d = elim (cases_lt d 10) [
  | inl low ↦ rw (lt-ltb d 10 low) (lt-ltb 32 (48 + d) (omega arith))
  | inr high ↦ rw (le-ltb d 10 high) (lt-ltb 32 (87 + d) (omega arith))
]

pub digest_plain : (digest : List ℕ) → is_plain (digest_digits digest) ≡ true
digest_plain [] = refl
digest_plain (b ∷ bs) = and_from _ _ (glyph_plain (b / 16)) (and_from _ _ (glyph_plain (b % 16)) (digest_plain bs))
