-- References whose names aren't declared by all operations above their own.
use Rattle.std.specs.Prelude.{◌≡◌, ◌<◌, ◌⊎◌, ◌&&◌, ℕ, Bool, true, false, List, Option, None, Some, length}
use Rattle.std.specs.Option.{is_none}
use Rattle.std.specs.List.{list_any}
use Rattle.lisa_tree.specs.Descriptions.{DescriptionTree}
use Rattle.lisa_tree.specs.Declarations.{declared_at, what_at, is_reference, owner_at, entry_name_at, above}
use Rattle.graph_paths.specs.Paths.{is_in, saw}
use Rattle.meant_declarations.specs.Meanings.{direct_meanings, SomeLedTo}
use Rattle.meant_declarations.specs.Sources.{searched}

-- some of these operations don't declare a name
abbrev pub any_lacks : DescriptionTree → List ℕ → List ℕ → Bool
any_lacks d n operations = list_any (λ p. is_none (declared_at d p n)) operations

abbrev pub lacks_named : DescriptionTree → ℕ → Option (List ℕ) → Bool
lacks_named d o None = false
lacks_named d o (Some n) = any_lacks d n (above d o)

-- a reference whose name some operation above its own doesn't declare
abbrev pub lacks : DescriptionTree → ℕ → Bool
lacks d i = is_reference (what_at d i) && lacks_named d (owner_at d i) (entry_name_at d i)

-- the same, as far as the name is looked up
abbrev pub short_named : DescriptionTree → ℕ → Option ℕ → List ℕ → Option (List ℕ) → Bool
short_named d o cover rest None = false
short_named d o cover rest (Some n) = any_lacks d n (searched d o cover rest n)

abbrev pub is_short : DescriptionTree → Option ℕ → List ℕ → ℕ → Bool
is_short d cover rest i = is_reference (what_at d i) && short_named d (owner_at d i) cover rest (entry_name_at d i)

-- a reference that another one directly means lacks a declaration, and its operation has fewer above it
pub record Lacking (d : DescriptionTree) (i : ℕ) : Type 0 where
  pub reference : ℕ
  pub means : is_in reference (direct_meanings d i) ≡ true
  pub is : lacks d reference ≡ true
  pub fewer : length (above d (owner_at d reference)) < length (above d (owner_at d i))

-- what is marked lacks a declaration, and what lacks one is marked, or one is that it directly means
pub record IsMarked (d : DescriptionTree) (i : ℕ) (mark : Bool) : Type 0 where
  pub sound : mark ≡ true → lacks d i ≡ true
  pub others : lacks d i ≡ true → (mark ≡ true) ⊎ Lacking d i

-- what lacks a declaration leads to a mark
abbrev pub AreMarked : DescriptionTree → List Bool → Type 0
AreMarked d marks = (i : ℕ) → lacks d i ≡ true → SomeLedTo d (λ j. saw marks j ≡ true) i
