-- Words of a given width: whole numbers from 0 to 2 ^ width - 1.
-- Each operation is its arithmetic on whole numbers without bound, whose result is then reduced to the width.
-- The conjunction, the disjunction and the difference of bits are std's `bit_and`, `bit_or` and `bit_xor` of the numbers.
use Rattle.std.specs.Prelude.{ℕ, ◌-◌, ◌*◌, ◌%◌, ◌^◌, Bool, ℤ, pos, negsuc, ◌+ℤ◌, ◌-ℤ◌, ◌*ℤ◌, nat_lt, int_lt, if◌then◌else◌}
use Rattle.std.specs.Int.{int_div_euclid}
use Rattle.lisa_words.specs.declared.words.Kind.{Kind}
use Rattle.lisa_words.specs.declared.words.Kind.TheVariants.{Unsigned, Signed}

-- a whole number modulo 2 ^ width, where `negsuc n` is -1 - n
abbrev pub reduced : ℤ → ℕ → ℕ
reduced (pos n) width = n % 2 ^ width
reduced (negsuc n) width = 2 ^ width - 1 - n % 2 ^ width

-- the number that a word of a width means in a kind: two's complement in the signed kind
abbrev pub meant : Kind → ℕ → ℕ → ℤ
meant Unsigned width bits = pos bits
meant Signed width bits = if nat_lt bits (2 ^ (width - 1)) then pos bits else pos bits -ℤ pos (2 ^ width)

-- what is left of a word at a width
abbrev pub word_cut : ℕ → ℕ → ℕ
word_cut width a = reduced (pos a) width

-- a word of the first width at the second, which is no smaller: the number that it means in its kind
abbrev pub word_widen : Kind → ℕ → ℕ → ℕ → ℕ
word_widen kind width a wider = reduced (meant kind width a) wider

abbrev pub word_add : ℕ → ℕ → ℕ → ℕ
word_add width a b = reduced (pos a +ℤ pos b) width

abbrev pub word_sub : ℕ → ℕ → ℕ → ℕ
word_sub width a b = reduced (pos a -ℤ pos b) width

abbrev pub word_mul : ℕ → ℕ → ℕ → ℕ
word_mul width a b = reduced (pos a *ℤ pos b) width

-- -1 - a, which has each bit of a turned round
abbrev pub word_not : ℕ → ℕ → ℕ
word_not width a = reduced (negsuc a) width

-- a times a power of two
abbrev pub word_shl : ℕ → ℕ → ℕ → ℕ
word_shl width a by = reduced (pos (a * 2 ^ by)) width

-- the number that a means, divided by a power of two and rounded down
abbrev pub word_shr : Kind → ℕ → ℕ → ℕ → ℕ
word_shr kind width a by = reduced (int_div_euclid (meant kind width a) (pos (2 ^ by))) width

-- a means a smaller number than b
abbrev pub word_less : Kind → ℕ → ℕ → ℕ → Bool
word_less kind width a b = int_lt (meant kind width a) (meant kind width b)
