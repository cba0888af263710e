-- The words of a text: its longest runs of bytes that aren't blank, each with the place of its first byte.
use Rattle.std.specs.Prelude.{ℕ, ◌+◌, Bool, true, not, List, [], ◌∷◌, if◌then◌else◌}
use Rattle.lisa_words.specs.Bytes.{is_blank, front_is}

pub record Placed : Type 0 where
  pub at : ℕ
  pub text : List ℕ

abbrev pub word_at : ℕ → List ℕ → Placed
word_at at text = record { at = at; text = text }

abbrev pub is_solid : ℕ → Bool
is_solid b = not (is_blank b)

-- a byte in front of the words behind it: it begins the first of them where that word stands directly behind it
abbrev pub with_byte : ℕ → ℕ → Bool → List Placed → List Placed
with_byte at b true (w ∷ ws) = word_at at (b ∷ w.text) ∷ ws
with_byte at b joins ws = word_at at (b ∷ []) ∷ ws

-- the words of the bytes that stand from a place on
abbrev pub words_from : ℕ → List ℕ → List Placed
words_from at [] = []
words_from at (b ∷ bs) = if is_blank b then words_from (at + 1) bs else with_byte at b (front_is is_solid bs) (words_from (at + 1) bs)
