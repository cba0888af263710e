-- Sets of numbers as bits.
use Rattle.std.specs.Prelude.{ℕ, ◌/◌, ◌%◌, Bool, List, slice_index, nat_eq}
use Rattle.std.specs.Int.{bit_at}

-- whether a word has the bit of a place
abbrev pub has : ℕ → ℕ → Bool
has word bit = nat_eq (bit_at word bit) 1

-- whether a number is in a row of words of 64 bits
abbrev pub member : List ℕ → ℕ → Bool
member row number = has (slice_index row (number / 64)) (number % 64)
