-- As many zeros as there are regs.
use Rattle.std.proofs.Common.{◌≡◌, ℕ, List, [], ◌∷◌, length, map, ap, refl}
use Rattle.std.specs.Prelude.{replicate}
use Rattle.lisa_engine.specs.declared.parts.Item.{Item}

pub zeros_are : (items : List Item) → replicate {A = ℕ} (length items) 0 ≡ map (λ (item : Item). 0) items
zeros_are [] = refl
zeros_are (item ∷ rest) = ap (λ (xs : List ℕ). 0 ∷ xs) (zeros_are rest)
