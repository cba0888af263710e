-- The operations that references may choose.
use Rattle.std.specs.Prelude.{ℕ, ◌≡◌, ◌↔◌, true, List, [], Option, None, Some}
use Rattle.std.specs.List.Sorted.{IsStrictlyIncreasing}
use Rattle.lisa_tree.specs.Descriptions.{DescriptionTree}
use Rattle.graph_paths.specs.Paths.{is_in}
use Rattle.lisa_tree.specs.declared.declared.What.{What}
use Rattle.lisa_tree.specs.declared.declared.What.TheVariants as whats
use Rattle.lisa_tree.specs.Declarations.{what_at, plain_at}
use Rattle.lisa_tree.specs.Paths.{Choosing, Declaring, leads}

-- A declared name, by its number, may choose an operation, no alias: an alternative of its own group or instance, or, for a reference,
-- what some declaration of its name by an operation above its own may choose.
pub data MayMean (d : DescriptionTree) : ℕ → ℕ → Type 0 where
  chosen : {i a : ℕ} (c : ℕ) → leads d (Declaring i) (Choosing c) ≡ true → is_in a (plain_at d c) ≡ true → MayMean d i a
  referenced : {i a : ℕ} (j : ℕ) → leads d (Declaring i) (Declaring j) ≡ true → MayMean d j a → MayMean d i a

-- what each reference may choose, each operation once and in the order of their numbers
pub record AreMeanings (d : DescriptionTree) (means : ℕ → List ℕ) : Type 0 where
  pub rising : (i : ℕ) → what_at d i ≡ Some whats.Reference → IsStrictlyIncreasing (means i)
  pub exact : (i a : ℕ) → what_at d i ≡ Some whats.Reference → (is_in a (means i) ≡ true) ↔ MayMean d i a

-- what a declared name chooses among: a group or an instance its alternatives as they stand, a label nothing
abbrev pub chosen_by : DescriptionTree → (ℕ → List ℕ) → ℕ → Option What → List ℕ
chosen_by d means i None = []
chosen_by d means i (Some (whats.Group c)) = plain_at d c
chosen_by d means i (Some (whats.Instance c)) = plain_at d c
chosen_by d means i (Some whats.Label) = []
chosen_by d means i (Some whats.Reference) = means i
