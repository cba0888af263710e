-- What may stand in `reset`.
use Rattle.std.specs.Prelude.{◌≡◌, ◌⊎◌, ℕ, List, None, Some}
use Rattle.lisa_tree.specs.Descriptions.{DescriptionTree}
use Rattle.description_places.specs.declared.scopes.Local.{Local}
use Rattle.description_places.specs.Scopes.{Scope, local_named}
use Rattle.description_places.specs.Places as places
use Rattle.description_places.specs.Places.{Place}
use Rattle.lisa_machine.specs.Codings.{IsScalar}

-- a local, or a register that is no array
abbrev pub IsHeld : DescriptionTree → ℕ → Scope → List ℕ → Type 0
IsHeld d o scope n = ((l : Local) × (local_named n scope ≡ Some l)) ⊎ ((local_named n scope ≡ None) × IsScalar d o n)

-- Locals and registers that are no arrays are read and assigned. No element, field or boundary stands there, nothing is called, and no stage
-- is stalled or flushed.
abbrev pub FitsInReset : DescriptionTree → ℕ → Scope → Place → Type 0
FitsInReset d o scope (places.Reads n) = IsHeld d o scope n
FitsInReset d o scope (places.Writes n) = IsHeld d o scope n
FitsInReset d o scope (places.Steps n) = IsHeld d o scope n
FitsInReset d o scope (places.ReadsElement n) = ⊥
FitsInReset d o scope (places.WritesElement n) = ⊥
FitsInReset d o scope (places.ReadsInput field) = ⊥
FitsInReset d o scope (places.ReadsOutput field) = ⊥
FitsInReset d o scope (places.WritesOutput field) = ⊥
FitsInReset d o scope (places.ReadsBoundary pipe before after field) = ⊥
FitsInReset d o scope places.ReadsDecoded = ⊥
FitsInReset d o scope (places.Calls n) = ⊥
FitsInReset d o scope (places.Stalls pipe stage) = ⊥
FitsInReset d o scope (places.Flushes pipe stage) = ⊥
FitsInReset d o scope _ = Unit {0}
