-- Texts of lines. A line has words with one blank between them, and a line feed behind it.
use Rattle.std.specs.Prelude.{ℕ, ◌+◌, ◌/◌, ◌%◌, false, List, [], ◌∷◌, ◌++◌, length, map, codes, decimal}
use Rattle.std.specs.List.{flat_map, join_with_byte}
use Rattle.std.specs.Fmt.{digits, digit_glyph}
use Rattle.lisa_engine.specs.Memory.{Memory}
use Rattle.lisa_object.specs.declared.parts.Stamped.{Stamped}

-- the line of these words
abbrev pub line_of : List (List ℕ) → List ℕ
line_of words = join_with_byte 32 words

-- the text of these lines
abbrev pub text_of : List (List ℕ) → List ℕ
text_of lines = flat_map (λ line. line ++ 10 ∷ []) lines

-- a number in lower-case hexadecimal digits, without prefix or zeros that lead
abbrev pub hex : ℕ → List ℕ
hex n = digits 16 false n

-- two digits for each byte of a digest
abbrev pub byte_digits : ℕ → List ℕ
byte_digits b = digit_glyph false (b / 16) ∷ digit_glyph false (b % 16) ∷ []

abbrev pub digest_digits : List ℕ → List ℕ
digest_digits digest = flat_map byte_digits digest

-- ---- images

abbrev pub memory_head : Memory → List ℕ
memory_head m = line_of (codes "memory" ∷ m.name ∷ decimal m.width ∷ decimal m.depth ∷ decimal (length m.cells) ∷ [])

-- a line for the memory, and one for each of its cells
abbrev pub memory_lines : Memory → List (List ℕ)
memory_lines m = memory_head m ∷ map hex m.cells

abbrev pub image_head : List ℕ → List ℕ
image_head digest = line_of (codes "image" ∷ codes "1" ∷ digest_digits digest ∷ [])

abbrev pub image_lines : Stamped → List (List ℕ)
image_lines s = image_head s.digest ∷ (flat_map memory_lines s.image ++ codes "end" ∷ [])

-- the one spelling of an image
abbrev pub image_text : Stamped → List ℕ
image_text s = text_of (image_lines s)
