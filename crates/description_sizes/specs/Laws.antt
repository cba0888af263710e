-- What holds of the sizes of every description.
use Rattle.std.specs.Prelude.{ℕ, ◌≡◌, ◌≤◌, Option, Some, length}
use Rattle.lisa_tree.specs.Descriptions.{DescriptionTree}
use Rattle.lisa_tree.specs.Resources.{stages}
use Rattle.machine_parts.specs.Parts.{arrays_of, pins_of}
use Rattle.activation_trees.specs.Unfolding.{occurrences}
use Rattle.text_counts.specs.Tables.{nodes_of}
use Rattle.description_sizes.specs.Texts.{texts, statements_at, nodes_at}
use Rattle.description_sizes.specs.Cells.{cell_count}
use Rattle.description_sizes.specs.Sizes.{items, text_statements, text_nodes}

-- each count is within its limit
pub record AreWithinLimits (d : DescriptionTree) (width : Option ℕ) (forms : ℕ) : Type 0 where
  pub few_stages : length (stages d) ≤ 8
  pub few_pins : length (pins_of d) ≤ 64
  pub few_operations : length d.operations ≤ 1024
  pub few_arrays : length (arrays_of d) ≤ 1024
  pub few_cells : cell_count d ≤ 4194304
  pub few_forms : forms ≤ 1024
  pub few_occurrences : length (occurrences d) ≤ 4096
  pub few_items : length (items d width) ≤ 8192
  pub few_statements : text_statements d ≤ 4096
  pub few_nodes : text_nodes d ≤ 4194304

-- the texts of an operation have counts
pub record AreCounted (d : DescriptionTree) (o : ℕ) : Type 0 where
  pub statements : (texts d).statements o ≡ Some (statements_at d o)
  pub nodes : nodes_of (texts d) o ≡ Some (nodes_at d o)
