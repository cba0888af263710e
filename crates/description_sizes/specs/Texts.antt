-- The counts of unfolded texts as numbers.
use Rattle.std.specs.Prelude.{ℕ, zero, suc, Bool, false, ◌&&◌, ◌||◌, List, None, length, filter, unwrap_or}
use Rattle.std.specs.List.{list_any, range_with_len}
use Rattle.lisa_tree.specs.Descriptions.{DescriptionTree}
use Rattle.graph_paths.specs.Paths.{is_in}
use Rattle.lisa_tree.specs.Operations.{sections_at, activation_in}
use Rattle.lisa_tree.specs.Declarations.{choices, entries, plain_at}
use Rattle.lisa_tree.specs.Paths.{Choosing, Declaring, leads, node_count}
use Rattle.text_counts.specs.Sums.{Counts}
use Rattle.text_counts.specs.Activations.{activation_nodes}
use Rattle.text_counts.specs.Steps.{Counting, follows, statements_counting, expressions_counting, behaviors_counting}
use Rattle.text_counts.specs.Tables.{TextTable, nodes_of}

-- A declared name may choose an operation: as an alternative of its own group or instance, or as what it may refer to, so many levels deep.
abbrev pub may_choose : ℕ → DescriptionTree → ℕ → ℕ → Bool
may_choose zero d i a = false
may_choose (suc levels) d i a =
    list_any (λ c. leads d (Declaring i) (Choosing c) && is_in a (plain_at d c)) (range_with_len 0 (length (choices d)))
    || list_any (λ j. leads d (Declaring i) (Declaring j) && may_choose levels d j a) (range_with_len 0 (length (entries d)))

-- Where no operation reaches itself, no path has more levels.
abbrev pub levels : DescriptionTree → ℕ
levels d = suc (node_count d)

-- the operations, no aliases, that a declared name may choose, each once
unfoldable pub chosen_by : DescriptionTree → ℕ → List ℕ
chosen_by d i = filter (may_choose (levels d) d i) (range_with_len 0 (length d.operations))

-- counts that rest on each other, so many levels deep
abbrev pub counts_within : ℕ → DescriptionTree → Counting → Counts
counts_within zero d counting a = None
counts_within (suc levels) d counting a = follows d (chosen_by d) counting (counts_within levels d counting) a

unfoldable pub counts_of : DescriptionTree → Counting → Counts
counts_of d counting = counts_within (levels d) d counting

abbrev pub expression_counts : DescriptionTree → Counts
expression_counts d = counts_of d (expressions_counting d)

-- the counts of all texts
abbrev pub texts : DescriptionTree → TextTable
texts d = record {
  means = chosen_by d;
  statements = counts_of d (statements_counting d);
  behaviors = counts_of d (behaviors_counting d (expression_counts d));
  expressions = expression_counts d;
  activations = λ o. activation_nodes (expression_counts d) d o (activation_in (sections_at d o));
}

-- how many statements the unfolded behaviour of an operation has
abbrev pub statements_at : DescriptionTree → ℕ → ℕ
statements_at d o = unwrap_or ((texts d).statements o) 0

-- how many statements, alternatives, activation items and nodes of expressions its unfolded behaviour and activation have
abbrev pub nodes_at : DescriptionTree → ℕ → ℕ
nodes_at d o = unwrap_or (nodes_of (texts d) o) 0
