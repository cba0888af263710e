-- How many items and nodes an activation has: each name and each `if` one, both branches, and the nodes of the conditions. A group that is
-- named adds nothing for its alternatives.
use Rattle.std.specs.Prelude.{ℕ, Option, None, Some}
use Rattle.lisa_tree.specs.Activations as acts
use Rattle.lisa_tree.specs.Activations.{ActTree, ActTrees}
use Rattle.lisa_tree.specs.Descriptions.{DescriptionTree}
use Rattle.text_counts.specs.Sums.{Counts, plus, one_more}
use Rattle.text_counts.specs.Expressions.{expression_nodes}

abbrev mutual
  pub item_nodes : Counts → DescriptionTree → ℕ → ActTree → Option ℕ
  item_nodes known d o (acts.Start n) = Some 1
  item_nodes known d o (acts.Choose test chosen) = one_more (plus (expression_nodes known d o test) (items_nodes known d o chosen))
  item_nodes known d o (acts.ChooseElse test chosen other) =
      one_more (plus (expression_nodes known d o test) (plus (items_nodes known d o chosen) (items_nodes known d o other)))

  pub items_nodes : Counts → DescriptionTree → ℕ → ActTrees → Option ℕ
  items_nodes known d o acts.End = Some 0
  items_nodes known d o (acts.Then a rest) = plus (item_nodes known d o a) (items_nodes known d o rest)

abbrev pub activation_nodes : Counts → DescriptionTree → ℕ → Option ActTrees → Option ℕ
activation_nodes known d o None = Some 0
activation_nodes known d o (Some all) = items_nodes known d o all
