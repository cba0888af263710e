-- How counts of operations, choices and references rest on each other.
use Rattle.std.specs.Prelude.{ℕ, ◌≡◌, List, Option, None, Some, option_map}
use Rattle.std.specs.Borrow.{Bor}
use Rattle.lisa_tree.specs.Descriptions.{DescriptionTree}
use Rattle.lisa_tree.specs.declared.declared.What.{What}
use Rattle.lisa_tree.specs.declared.declared.What.TheVariants as whats
use Rattle.lisa_tree.specs.Operations.{sections_at, behavior_in, expression_in}
use Rattle.lisa_tree.specs.Declarations.{what_at, plain_at}
use Rattle.lisa_tree.specs.Paths.{Node, Operation, Choosing, Declaring, node_at}
use Rattle.least_fixed_points.specs.Settles.{entry, IsWithin}
use Rattle.text_counts.specs.Sums.{Counts, sum_of}
use Rattle.text_counts.specs.Expressions.{read_nodes, own_nodes}
use Rattle.text_counts.specs.Behaviors.{behavior_count}

-- a count of each operation, and of what may be chosen, by what is known of others
pub record Counting : Type 0 where
  pub of_operation : Counts → ℕ → Option ℕ
  pub of_chosen : Counts → List ℕ → Option ℕ

abbrev pub entry_count : (ℕ → List ℕ) → Counting → Counts → ℕ → Option What → Option ℕ
entry_count means counting known i (Some whats.Reference) = counting.of_chosen known (means i)
entry_count means counting known i _ = None

abbrev pub node_count_of : DescriptionTree → (ℕ → List ℕ) → Counting → Counts → Node → Option ℕ
node_count_of d means counting known (Operation o) = counting.of_operation known o
node_count_of d means counting known (Choosing c) = counting.of_chosen known (plain_at d c)
node_count_of d means counting known (Declaring i) = entry_count means counting known i (what_at d i)

-- What follows for a node: for an operation, for a group's or an instance's alternatives, and for what a reference may choose. Groups and
-- instances go by their choices, and have no count of their own.
abbrev pub follows : DescriptionTree → (ℕ → List ℕ) → Counting → Counts → ℕ → Option ℕ
follows d means counting known a = node_count_of d means counting known (node_at d a)

-- ---- the three counts that rest on themselves

-- the nodes of expressions
abbrev pub expressions_counting : DescriptionTree → Counting
expressions_counting d = record {
  of_operation = λ known o. own_nodes known d o (expression_in (sections_at d o));
  of_chosen = read_nodes;
}

-- what a table of nodes tells, where there is one
abbrev pub known_nodes : Option (Bor (List (Option ℕ))) → Option Counts
known_nodes nodes = option_map (λ table. entry table.now) nodes

-- what an operation that a call may run adds by itself: nothing where statements alone are counted, else one
abbrev pub alternative : Option Counts → ℕ
alternative None = 0
alternative (Some nodes) = 1

-- what behaviours count, with the nodes of expressions or without
abbrev pub behavior_counting : DescriptionTree → Option Counts → Counting
behavior_counting d nodes = record {
  of_operation = λ known o. behavior_count nodes known d o (behavior_in (sections_at d o));
  of_chosen = sum_of (alternative nodes);
}

-- the statements of behaviours
abbrev pub statements_counting : DescriptionTree → Counting
statements_counting d = behavior_counting d None

-- the statements, alternatives and nodes of behaviours, by the nodes of expressions
abbrev pub behaviors_counting : DescriptionTree → Counts → Counting
behaviors_counting d expressions = behavior_counting d (Some expressions)

-- what a larger table gives has all that a smaller one gives
pub record IsSteady (counting : Counting) : Type 0 where
  pub operations : (known table : Counts) → IsWithin known table → (o n : ℕ) → counting.of_operation known o ≡ Some n → counting.of_operation table o ≡ Some n
  pub choices : (known table : Counts) → IsWithin known table → (all : List ℕ) (n : ℕ) → counting.of_chosen known all ≡ Some n → counting.of_chosen table all ≡ Some n
