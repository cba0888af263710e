-- Kinds of bytes, and runs of them.
use Rattle.std.specs.Prelude.{ℕ, Bool, false, List, [], ◌∷◌, length, drop, nat_le, ◌==◌, ◌&&◌, ◌||◌}
use Rattle.std.specs.List.{list_all, prefix_len, take_while}

-- a space or a tab
abbrev pub is_blank : ℕ → Bool
is_blank b = b == 32 || b == 9

abbrev pub is_digit : ℕ → Bool
is_digit b = nat_le 48 b && nat_le b 57

-- a letter or `_`
abbrev pub is_letter : ℕ → Bool
is_letter b = (nat_le 65 b && nat_le b 90) || (nat_le 97 b && nat_le b 122) || b == 95

abbrev pub is_name_byte : ℕ → Bool
is_name_byte b = is_letter b || is_digit b

-- a word character: a letter, a digit, `_` or `.`
abbrev pub is_word : ℕ → Bool
is_word b = is_name_byte b || b == 46

-- what may stand in a line: printable ASCII and the tab
abbrev pub is_line_byte : ℕ → Bool
is_line_byte b = (nat_le 32 b && nat_le b 126) || b == 9

-- a letter or `_`, then letters, digits and `_`, at most 64 bytes in all
abbrev pub is_name : List ℕ → Bool
is_name [] = false
is_name (b ∷ bs) = is_letter b && list_all is_name_byte bs && nat_le (length (b ∷ bs)) 64

-- the first byte passes the test
abbrev pub front_is : (ℕ → Bool) → List ℕ → Bool
front_is p [] = false
front_is p (b ∷ bs) = p b

-- the text behind the blanks at its front
abbrev pub skip_blanks : List ℕ → List ℕ
skip_blanks text = drop (prefix_len is_blank text) text

-- the longest run of word characters at the front, and what follows it
abbrev pub front_word : List ℕ → List ℕ
front_word text = take_while is_word text

abbrev pub behind_word : List ℕ → List ℕ
behind_word text = drop (prefix_len is_word text) text
