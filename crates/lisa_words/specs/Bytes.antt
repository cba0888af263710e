-- Kinds of bytes, as tests: is_blank, is_digit, is_hexadecimal, is_letter (with `_`), is_word, is_printable, is_text; and front_is,
-- whether the first item of a list passes a test.
use Rattle.std.specs.Prelude.{ℕ, Bool, false, List, [], ◌∷◌, nat_le, ◌==◌, ◌&&◌, ◌||◌, not}

-- a space, tab, carriage return or line feed
abbrev pub is_blank : ℕ → Bool
is_blank b = b == 32 || b == 9 || b == 10 || b == 13

abbrev pub is_digit : ℕ → Bool
is_digit b = nat_le 48 b && nat_le b 57

-- a hexadecimal digit of either case
abbrev pub is_hexadecimal : ℕ → Bool
is_hexadecimal b = is_digit b || (nat_le 65 b && nat_le b 70) || (nat_le 97 b && nat_le b 102)

-- a letter or `_`
abbrev pub is_letter : ℕ → Bool
is_letter b = (nat_le 65 b && nat_le b 90) || (nat_le 97 b && nat_le b 122) || b == 95

-- what a name is made of
abbrev pub is_word : ℕ → Bool
is_word b = is_letter b || is_digit b

-- printable ASCII
abbrev pub is_printable : ℕ → Bool
is_printable b = nat_le 32 b && nat_le b 126

-- what a text is made of: printable ASCII, tab, carriage return and line feed
abbrev pub is_text : ℕ → Bool
is_text b = is_printable b || b == 9 || b == 10 || b == 13

-- what the rest of a line is made of
abbrev pub is_in_line : ℕ → Bool
is_in_line b = is_text b && not (b == 10)

-- the first item passes the test
abbrev pub front_is : {A : Type 0} → (A → Bool) → List A → Bool
front_is p [] = false
front_is p (x ∷ xs) = p x
