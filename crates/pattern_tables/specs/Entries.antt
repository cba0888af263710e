-- Plain forms with their masks and patterns.
use Rattle.std.specs.Prelude.{◌≡◌, ◌<◌, ℕ, suc, Bool, List, [], ◌∷◌, if◌then◌else◌}
use Rattle.pattern_tables.specs.declared.bit_pattern.BitPattern.{BitPattern}
use Rattle.pattern_tables.specs.declared.entry.Entry.{Entry}

abbrev pub entry : ℕ → ℕ → ℕ → Entry
entry m p k = record { mask = m; pattern = p; form = k }

-- the plain ones of these forms, whose numbers begin at n
abbrev pub plain_entries : ℕ → List BitPattern → List Bool → List Entry
plain_entries n (p ∷ ps) (b ∷ bs) = if b then (entry p.mask p.pattern n ∷ plain_entries (suc n) ps bs) else plain_entries (suc n) ps bs
plain_entries n _ _ = []

-- by masks, and those of one mask by patterns
pub data IsBefore (d e : Entry) : Type 0 where
  mask : d.mask < e.mask → IsBefore d e
  pattern : d.mask ≡ e.mask → d.pattern < e.pattern → IsBefore d e
