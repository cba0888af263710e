-- How many patterns are looked at for one word.
use Rattle.std.specs.Prelude.{ℕ, ◌+◌, Bool, List, [], ◌∷◌, length, nat_eq, if◌then◌else◌}
use Rattle.std.specs.List.{sum_by, count_by, list_any}
use Rattle.std.specs.Int.Digits.{digits_of}
use Rattle.pattern_tables.specs.declared.bit_pattern.BitPattern.{BitPattern}

-- the masks of the plain forms
abbrev pub plain_masks : List BitPattern → List Bool → List ℕ
plain_masks (p ∷ ps) (b ∷ bs) = if b then (p.mask ∷ plain_masks ps bs) else plain_masks ps bs
plain_masks _ _ = []

-- each number once
abbrev pub once : List ℕ → List ℕ
once [] = []
once (m ∷ ms) = if list_any (nat_eq m) ms then once ms else (m ∷ once ms)

-- one more than the binary digits of a number
unfoldable pub look_ups : ℕ → ℕ
look_ups n = length (digits_of 2 n) + 1

-- the sum, over the distinct masks of plain forms, of one more than the binary digits of the number of plain forms with that mask
abbrev pub probe_bound : List BitPattern → List Bool → ℕ
probe_bound patterns plain = sum_by (λ m. look_ups (count_by (nat_eq m) (plain_masks patterns plain))) (once (plain_masks patterns plain))
