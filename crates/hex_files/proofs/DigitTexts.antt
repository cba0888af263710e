-- What the digits of a cell write.
use Rattle.std.proofs.Common.{◌≡◌, ◌≢◌, ℕ, zero, suc, ◌+◌, ◌/◌, ◌%◌, ◌^◌, ◌<◌, ◌≤◌, Bool, true, false, cond, List, [], ◌∷◌, ◌++◌, length, Option, Some, None, refl, ap, ◌∙◌, arith, ⊎_elim, length-append, ne_eqb}
use Rattle.std.specs.Prelude.{◌==◌, nat_lt, not, filter, ◌&&◌, ◌||◌, option_map}
use Rattle.std.specs.List.{list_all}
use Rattle.std.specs.Char.{digit_value, is_digit}
use Rattle.std.specs.Fmt.{digit_glyph}
use Rattle.std.specs.Str.Parse.{digits_value}
use Rattle.std.proofs.lemmas.Bool.{cases_lt, lt-ltb, le-ltb, and_from}
use Rattle.std.proofs.lemmas.Str.{digit_value-digit_char}
use Rattle.std.proofs.lemmas.Int.Digits.{digits_value_push}
use Rattle.hex_files.specs.declared.memh_words.MemhWord.TheVariants.{Index, Value}
use Rattle.hex_files.specs.MemhText.{fixed_digits}
use Rattle.hex_files.specs.MemhReading.{is_number, number_of, word_of}

-- a hexadecimal digit, which is neither `@` nor `_`, and stands behind the blanks and the signs of comments
pub record IsGlyph (b : ℕ) : Type 0 where
  pub above : 47 < b
  pub no_at : (b == 64) ≡ false
  pub no_line : (b == 95) ≡ false
  pub digit : is_digit b 16 ≡ true

small : (d : ℕ) → d < 10 → digit_glyph false d ≡ 48 + d
small d h = ap (λ (b : Bool). cond b (48 + d) (87 + d)) (lt-ltb d 10 h)

large : (d : ℕ) → 10 ≤ d → digit_glyph false d ≡ 87 + d
large d h = ap (λ (b : Bool). cond b (48 + d) (87 + d)) (le-ltb d 10 h)

above_signs : (d : ℕ) → 47 < digit_glyph false d
above_signs d = ⊎_elim (λ h. omega (arith, small d h)) (λ h. omega (arith, large d h)) (cases_lt d 10)

is_not : (d c : ℕ) → 57 < c → c < 97 → digit_glyph false d ≢ c
is_not d c low high e = ⊎_elim (λ h. omega (arith, small d h, e)) (λ h. omega (arith, large d h, e)) (cases_lt d 10)

pub glyph_is : (d : ℕ) → d < 16 → IsGlyph (digit_glyph false d)
glyph_is d lt = record {
  above = above_signs d;
  no_at = ne_eqb (digit_glyph false d) 64 (is_not d 64 (omega arith) (omega arith));
  no_line = ne_eqb (digit_glyph false d) 95 (is_not d 95 (omega arith) (omega arith));
  digit = lt-ltb (digit_value (digit_glyph false d)) 16 (omega (arith, lt, digit_value-digit_char d (omega (arith, lt))));
}

-- each of them is one
pub data Glyphs : List ℕ → Type 0 where
  none : Glyphs []
  some : {b : ℕ} {bs : List ℕ} → IsGlyph b → Glyphs bs → Glyphs (b ∷ bs)

glyphs_push : (xs : List ℕ) (b : ℕ) → Glyphs xs → IsGlyph b → Glyphs (xs ++ b ∷ [])
glyphs_push [] b none g = some g none
glyphs_push (x ∷ xs) b (some h more) g = some h (glyphs_push xs b more g)

pub digits_are : (k v : ℕ) → Glyphs (fixed_digits k v)
unfolding fixed_digits
digits_are zero v = none
digits_are (suc k) v = glyphs_push (fixed_digits k (v / 16)) (digit_glyph false (v % 16)) (digits_are k (v / 16)) (glyph_is (v % 16) (omega arith))

pub length-fixed_digits : (k v : ℕ) → length (fixed_digits k v) ≡ k
unfolding fixed_digits
length-fixed_digits zero v = refl
length-fixed_digits (suc k) v = omega (arith, length-append (fixed_digits k (v / 16)) (digit_glyph false (v % 16) ∷ []), length-fixed_digits k (v / 16))

pub fixed_value : (k v : ℕ) → v < 16 ^ k → digits_value 16 (fixed_digits k v) ≡ v
unfolding fixed_digits
fixed_value zero v lt = omega arith
fixed_value (suc k) v lt =
    digits_value_push 16 (fixed_digits k (v / 16)) (digit_glyph false (v % 16))
    ∙ (let e = fixed_value k (v / 16) (omega arith) in let g = digit_value-digit_char (v % 16) (omega arith) in omega (arith, e, g))

-- ---- as a word

all_number : (bs : List ℕ) → Glyphs bs → list_all (λ c. c == 95 || is_digit c 16) bs ≡ true
all_number [] none = refl
all_number (b ∷ bs) (some g more) = and_from (b == 95 || is_digit b 16) (list_all (λ c. c == 95 || is_digit c 16) bs) (ap (λ (l : Bool). l || is_digit b 16) g.no_line ∙ g.digit) (all_number bs more)

unsigned : (bs : List ℕ) → Glyphs bs → filter (λ b. not (b == 95)) bs ≡ bs
unsigned [] none = refl
unsigned (b ∷ bs) (some g more) =
    ap (λ (l : Bool). cond (not l) (b ∷ filter (λ c. not (c == 95)) bs) (filter (λ c. not (c == 95)) bs)) g.no_line ∙ ap (λ (l : List ℕ). b ∷ l) (unsigned bs more)

number_here : (b : ℕ) (bs : List ℕ) (n : ℕ) → Glyphs (b ∷ bs) → digits_value 16 (b ∷ bs) ≡ n → n < 2 ^ 64 → number_of (b ∷ bs) ≡ Some n
unfolding number_of
number_here b bs n (some g more) e small =
    ap (λ (t : List ℕ). cond (is_number (b ∷ bs) && nat_lt (digits_value 16 t) (2 ^ 64)) (Some (digits_value 16 t)) None) (unsigned (b ∷ bs) (some g more))
    ∙ ap (λ (v : ℕ). cond (is_number (b ∷ bs) && nat_lt v (2 ^ 64)) (Some v) None) e
    ∙ ap (λ (c : Bool). cond c (Some n) None) (and_from (is_number (b ∷ bs)) (nat_lt n (2 ^ 64)) (and_from (is_digit b 16) (list_all (λ c. c == 95 || is_digit c 16) bs) g.digit (all_number bs more)) (lt-ltb n (2 ^ 64) small))

value_here : (text : List ℕ) (n : ℕ) → Glyphs text → 0 < length text → digits_value 16 text ≡ n → n < 2 ^ 64 → word_of text ≡ Some (Value n)
unfolding word_of
value_here [] n gs pos e small = absurd (omega arith)
value_here (b ∷ bs) n (some g more) pos e small =
    ap (λ (c : Bool). cond c (option_map (λ k. Index k) (number_of bs)) (option_map (λ k. Value k) (number_of (b ∷ bs)))) g.no_at
    ∙ ap (λ (o : Option ℕ). option_map (λ k. Value k) o) (number_here b bs n (some g more) e small)

pub cell_word : (k v : ℕ) → 0 < k → v < 16 ^ k → v < 2 ^ 64 → word_of (fixed_digits k v) ≡ Some (Value v)
cell_word k v pos fits small = value_here (fixed_digits k v) v (digits_are k v) (omega (arith, length-fixed_digits k v)) (fixed_value k v fits) small
