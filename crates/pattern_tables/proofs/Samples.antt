-- Bounds on the looks at patterns, worked out by hand.
use Rattle.std.proofs.Common.{◌≡◌, true, false, [], ◌∷◌, refl, ℕ}
use Rattle.std.specs.Prelude.{replicate}
use Rattle.pattern_tables.specs.declared.bit_pattern.BitPattern.{BitPattern}
use Rattle.pattern_tables.specs.Probes.{probe_bound, look_ups}

abbrev pattern_with : ℕ → BitPattern
pattern_with m = record { mask = m; pattern = 0 }

-- three plain forms of one mask, and an alias of another
one_mask : probe_bound (pattern_with 192 ∷ pattern_with 192 ∷ pattern_with 192 ∷ pattern_with 223 ∷ []) (true ∷ true ∷ true ∷ false ∷ []) ≡ 3
unfolding look_ups
one_mask = refl

-- three of one mask and one of another
two_masks : probe_bound (pattern_with 192 ∷ pattern_with 192 ∷ pattern_with 223 ∷ pattern_with 192 ∷ []) (replicate 4 true) ≡ 5
unfolding look_ups
two_masks = refl

-- 1,024 of one mask
many : look_ups 1024 ≡ 12
unfolding look_ups
many = refl
