-- Counts where a reference has what an earlier one of the same meaning has.
use Rattle.std.specs.Prelude.{ℕ, ◌≡◌, ◌≢◌, ◌<◌, List, Option, None, Some, cond, nat_eq}
use Rattle.std.specs.List.{slice_get}
use Rattle.lisa_tree.specs.Descriptions.{DescriptionTree}
use Rattle.lisa_tree.specs.declared.declared.What.{What}
use Rattle.lisa_tree.specs.declared.declared.What.TheVariants as whats
use Rattle.lisa_tree.specs.Declarations.{what_at, plain_at}
use Rattle.lisa_tree.specs.Paths.{Node, Operation, Choosing, Declaring, node_at, entry_node}
use Rattle.text_counts.specs.Sums.{Counts}
use Rattle.text_counts.specs.Steps.{Counting}

-- an earlier reference may choose the same operations
pub record IsEarlier (d : DescriptionTree) (means : ℕ → List ℕ) (i j : ℕ) : Type 0 where
  pub before : j < i
  pub reference : what_at d j ≡ Some whats.Reference
  pub same : means j ≡ means i

-- a declared name itself, or such a reference
abbrev pub IsAlike : DescriptionTree → (ℕ → List ℕ) → ℕ → ℕ → Type 0
IsAlike d means i j = j ≢ i → IsEarlier d means i j

abbrev pub AreAlike : DescriptionTree → (ℕ → List ℕ) → List ℕ → Type 0
AreAlike d means alike = (i j : ℕ) → slice_get alike i ≡ Some j → IsAlike d means i j

-- what follows for a reference: what an alike one has, where it isn't itself
abbrev pub reference_along : DescriptionTree → (ℕ → List ℕ) → Counting → Counts → ℕ → Option ℕ → Option ℕ
reference_along d means counting known i None = counting.of_chosen known (means i)
reference_along d means counting known i (Some j) = cond (nat_eq j i) (counting.of_chosen known (means i)) (known (entry_node d j))

abbrev pub entry_along : DescriptionTree → (ℕ → List ℕ) → List ℕ → Counting → Counts → ℕ → Option What → Option ℕ
entry_along d means alike counting known i (Some whats.Reference) = reference_along d means counting known i (slice_get alike i)
entry_along d means alike counting known i _ = None

abbrev pub node_along : DescriptionTree → (ℕ → List ℕ) → List ℕ → Counting → Counts → Node → Option ℕ
node_along d means alike counting known (Operation o) = counting.of_operation known o
node_along d means alike counting known (Choosing c) = counting.of_chosen known (plain_at d c)
node_along d means alike counting known (Declaring i) = entry_along d means alike counting known i (what_at d i)

abbrev pub follows_along : DescriptionTree → (ℕ → List ℕ) → List ℕ → Counting → Counts → ℕ → Option ℕ
follows_along d means alike counting known a = node_along d means alike counting known (node_at d a)
