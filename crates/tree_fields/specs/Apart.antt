-- Fields that have no bit in common.
use Rattle.std.specs.Prelude.{ℕ, ◌+◌, ◌≤◌, ◌⊎◌}

-- each is its lowest bit and its width: one stands above the other
abbrev pub IsApart : ℕ × ℕ → ℕ × ℕ → Type 0
IsApart p q = (p.0 + p.1 ≤ q.0) ⊎ (q.0 + q.1 ≤ p.0)
