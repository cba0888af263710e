-- The counts of a description: exactly those that follow. What rests on itself has none; no accepted description has such a part.
use Rattle.std.specs.Prelude.{ℕ, ◌≡◌, ◌<◌, ◌↔◌, List, length, Option, Some}
use Rattle.std.specs.Global.{Vec}
use Rattle.lisa_tree.specs.Descriptions.{DescriptionTree}
use Rattle.lisa_tree.specs.Operations.{sections_at, activation_in}
use Rattle.graph_paths.specs.Paths.{targets}
use Rattle.least_fixed_points.specs.Settles.{entry, Settles}
use Rattle.text_counts.specs.Sums.{Counts, plus}
use Rattle.text_counts.specs.Activations.{activation_nodes}
use Rattle.text_counts.specs.References.{AreMeanings}
use Rattle.text_counts.specs.Steps.{Counting, follows, statements_counting, expressions_counting, behaviors_counting}

abbrev pub AreCounts : DescriptionTree → (ℕ → List ℕ) → Counting → Counts → Type 0
AreCounts d means counting known = (a n : ℕ) → (known a ≡ Some n) ↔ Settles (follows d means counting) a n

-- Of operations, by their numbers: the statements of the behaviour, its nodes with its statements and alternatives, the nodes of the
-- expression, and the items and nodes of the activation. What stands behind the operations in the first three is counted of what choices
-- and references choose among. Beside them, what each reference may choose.
pub record TextTable : Type 0 where
  pub means : ℕ → List ℕ
  pub statements : Counts
  pub behaviors : Counts
  pub expressions : Counts
  pub activations : Counts

pub record AreTextCounts (d : DescriptionTree) (t : TextTable) : Type 0 where
  pub meanings : AreMeanings d t.means
  pub statements : AreCounts d t.means (statements_counting d) t.statements
  pub expressions : AreCounts d t.means (expressions_counting d) t.expressions
  pub behaviors : AreCounts d t.means (behaviors_counting d t.expressions) t.behaviors
  pub activations : (o : ℕ) → o < length d.operations → t.activations o ≡ activation_nodes t.expressions d o (activation_in (sections_at d o))

-- a behaviour and an activation together
abbrev pub nodes_of : TextTable → ℕ → Option ℕ
nodes_of t o = plus (t.behaviors o) (t.activations o)

-- the same as lists
pub record TextLists : Type 0 where
  pub meanings : List (Vec ℕ)
  pub statements : List (Option ℕ)
  pub behaviors : List (Option ℕ)
  pub expressions : List (Option ℕ)
  pub activations : List (Option ℕ)

abbrev pub told_by : TextLists → TextTable
told_by l = record { means = targets l.meanings; statements = entry l.statements; behaviors = entry l.behaviors; expressions = entry l.expressions; activations = entry l.activations }
