-- Fields at their places in a word.
use Rattle.std.specs.Prelude.{◌<◌, ◌≤◌, ℕ, ◌+◌}
use Rattle.pattern_tables.specs.declared.fields.Place.{Place}

-- the lowest bit and the width
abbrev pub pair_of : Place → ℕ × ℕ
pair_of p = (p.lsb, p.width)

-- it has at least one bit, and lies in a word of 64
abbrev pub IsInside : Place → Type 0
IsInside p = (0 < p.width) × (p.lsb + p.width ≤ 64)
