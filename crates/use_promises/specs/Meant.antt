-- What references are.
use Rattle.std.specs.Prelude.{◌≡◌, ◌≢◌, ◌⊎◌, ◌<◌, ℕ, true, codes, Some, length}
use Rattle.lisa_tree.specs.Descriptions.{DescriptionTree}
use Rattle.lisa_tree.specs.declared.declared.What.TheVariants as whats
use Rattle.lisa_tree.specs.Operations.{name_at}
use Rattle.lisa_tree.specs.Declarations.{Entry, declared_at, above}
use Rattle.graph_paths.specs.Paths.{is_in}

-- a group or an instance, of this choice
abbrev pub ChoosesFrom : Entry → ℕ → Type 0
ChoosesFrom e c = (e.what ≡ whats.Group c) ⊎ (e.what ≡ whats.Instance c)

-- Some operation stands above that of a reference, each that does declares or references its name, and it isn't `main`.
pub record FitsReference (d : DescriptionTree) (e : Entry) : Type 0 where
  pub not_main : name_at d e.operation ≢ codes "main"
  pub some : 0 < length (above d e.operation)
  pub each : (p : ℕ) → is_in p (above d e.operation) ≡ true → (k : ℕ) × (declared_at d p e.name ≡ Some k)
