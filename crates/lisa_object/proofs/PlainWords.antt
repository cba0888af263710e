-- Words have no blanks and no line feeds.
use Rattle.std.proofs.Common.{◌≡◌, ℕ, ◌+◌, ◌*◌, ◌/◌, ◌%◌, ◌^◌, ◌<◌, ◌≤◌, Bool, true, false, cond, List, [], ◌∷◌, ◌++◌, length, refl, sym, ap, subst, ◌∙◌, inl, inr, arith}
use Rattle.std.specs.Prelude.{nat_lt, nat_le, nat_eq, ◌==◌, not, ◌&&◌, decimal}
use Rattle.std.specs.List.{list_all}
use Rattle.std.specs.Char.{digit_value}
use Rattle.std.specs.Str.Parse.{AllDigits}
use Rattle.std.specs.Fmt.{digits, digit_glyph}
use Rattle.std.proofs.lemmas.Bool.{and_parts, and_from, lt-ltb, cases_lt}
use Rattle.std.proofs.lemmas.Bool.Decides.{nat_tests}
use Rattle.std.proofs.lemmas.Fmt.{decimal_is_IsNumeral, digits_is_IsNumeral}
use Rattle.lisa_object.specs.Texts.{hex}
use Rattle.lisa_object.specs.Rules.{is_visible_byte, is_visible}
use Rattle.lisa_object.specs.Reading.{Word}
use Rattle.lisa_object.proofs.TextLaws.{lacks}

-- each byte is above the blank
abbrev pub is_plain : Word → Bool
is_plain word = list_all (nat_lt 32) word

above_lacks : (c b : ℕ) → c ≤ 32 → nat_lt 32 b ≡ true → not (b == c) ≡ true
above_lacks c b le e = grind (arith, nat_tests)

pub plain_lacks : (c : ℕ) (word : Word) → c ≤ 32 → is_plain word ≡ true → lacks c word ≡ true
plain_lacks c [] le h = refl
plain_lacks c (b ∷ bs) le h = let p = and_parts (nat_lt 32 b) (is_plain bs) h in and_from _ _ (above_lacks c b le p.0) (plain_lacks c bs le p.1)

digit_above : (c radix : ℕ) → radix ≤ 16 → digit_value c < radix → nat_lt 32 c ≡ true
digit_above c radix le h = elim (cases_lt c 48) [
  | inl low ↦ absurd (let e : digit_value c ≡ 36 = rw (lt-ltb c 48 low) refl in omega (arith, e, h))
  | inr high ↦ lt-ltb 32 c (omega arith)
]

pub digits_plain : (radix : ℕ) (word : Word) → radix ≤ 16 → AllDigits radix word → is_plain word ≡ true
digits_plain radix [] le h = refl
digits_plain radix (c ∷ cs) le h = and_from _ _ (digit_above c radix le h.0) (digits_plain radix cs le h.1)

pub decimal_plain : (n : ℕ) → n < 2 ^ 64 → is_plain (decimal n) ≡ true
decimal_plain n lt = digits_plain 10 (decimal n) (omega arith) (decimal_is_IsNumeral n lt).0.1

pub hex_plain : (n : ℕ) → n < 2 ^ 64 → is_plain (hex n) ≡ true
hex_plain n lt = digits_plain 16 (hex n) (omega arith) (digits_is_IsNumeral 16 false (omega arith) (omega arith) n (omega arith)).0.1

visible_above : (b : ℕ) → is_visible_byte b ≡ true → nat_lt 32 b ≡ true
visible_above b e = grind (arith, nat_tests)

bytes_plain : (name : Word) → list_all is_visible_byte name ≡ true → is_plain name ≡ true
bytes_plain [] h = refl
bytes_plain (b ∷ bs) h = let p = and_parts (is_visible_byte b) (list_all is_visible_byte bs) h in and_from _ _ (visible_above b p.0) (bytes_plain bs p.1)

pub visible_plain : (name : Word) → is_visible name ≡ true → is_plain name ≡ true
visible_plain [] h = refl
visible_plain (b ∷ bs) h = bytes_plain (b ∷ bs) h
