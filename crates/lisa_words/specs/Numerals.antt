-- Texts that write numbers.
use Rattle.std.specs.Prelude.{ℕ, ◌<◌, List}
use Rattle.std.specs.Str.Parse.{IsNumeral, digits_value}

-- one or more digits of the radix and nothing else, which write a number below the bound
abbrev pub IsNumeralBelow : ℕ → ℕ → List ℕ → Type 0
IsNumeralBelow radix bound text = IsNumeral radix text × (digits_value radix text < bound)
