-- Numbers of a source: decimal, or `0x` and hexadecimal digits of either case, below 2 ^ 64. Zeros may lead.
use Rattle.std.specs.Prelude.{ℕ, ◌-◌, ◌*◌, ◌^◌, ℤ, pos, ◌-ℤ◌, ◌≤ℤ◌, Bool, false, List, ◌∷◌, length, drop, Option, Some, None, nat_lt, ◌==◌, ◌&&◌, if◌then◌else◌}
use Rattle.std.specs.List.{list_all}
use Rattle.std.specs.Char.{digit_value}
use Rattle.std.specs.Str.Parse.{digits_value}

-- one or more digits of the radix and nothing else, which write a number below 2 ^ 64
abbrev pub is_numeral : ℕ → List ℕ → Bool
is_numeral radix digits = nat_lt 0 (length digits) && list_all (λ b. nat_lt (digit_value b) radix) digits && nat_lt (digits_value radix digits) (2 ^ 64)

abbrev pub numeral_of : ℕ → List ℕ → Option ℕ
numeral_of radix digits = if is_numeral radix digits then Some (digits_value radix digits) else None

abbrev pub starts_hex : List ℕ → Bool
starts_hex (a ∷ b ∷ digits) = a == 48 && b == 120
starts_hex _ = false

-- the number that a word is, if it is one
unfoldable pub number_of : List ℕ → Option ℕ
number_of word = if starts_hex word then numeral_of 16 (drop 2 word) else numeral_of 10 word

-- a number with a sign
abbrev pub signed : Bool → ℕ → ℤ
signed minus n = if minus then pos 0 -ℤ pos n else pos n

-- at most so many times 2 ^ 64 - 1 from 0
abbrev pub IsShort : ℕ → ℤ → Type 0
IsShort k n = ((pos 0 -ℤ pos (k * (2 ^ 64 - 1))) ≤ℤ n) × (n ≤ℤ pos (k * (2 ^ 64 - 1)))
