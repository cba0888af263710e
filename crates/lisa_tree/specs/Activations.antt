-- Items of an activation as plain trees.
use Rattle.std.specs.Prelude.{ℕ, suc, max, List, [], ◌∷◌}
use Rattle.lisa_tree.specs.declared.descriptions.Act.{Act, Choose', Row_of-Act, end_of-Act, more_of-Act, Held-Act-Choose-2, None', Some'}
use Rattle.lisa_tree.specs.declared.descriptions.Act.TheVariants as acts
use Rattle.lisa_tree.specs.Expressions.{ExprTree, expr_tree, expr_depth}

mutual
  pub data ActTree : Type 0 where
    Start : List ℕ → ActTree
    Choose : ExprTree → ActTrees → ActTree
    ChooseElse : ExprTree → ActTrees → ActTrees → ActTree

  -- a list of items
  pub data ActTrees : Type 0 where
    End : ActTrees
    Then : ActTree → ActTrees → ActTrees

abbrev mutual
  -- the plain tree that an item stands for
  pub act_tree : Act → ActTree
  act_tree (acts.Start name) = Start name
  act_tree (Choose' test shape row held) = with_else (expr_tree test) (row_trees row) held

  pub with_else : ExprTree → ActTrees → Held-Act-Choose-2 → ActTree
  with_else test chosen None' = Choose test chosen
  with_else test chosen (Some' shape row) = ChooseElse test chosen (row_trees row)

  pub row_trees : {m : _} → Row_of-Act m → ActTrees
  row_trees end_of-Act = End
  row_trees (more_of-Act a rest) = Then (act_tree a) (row_trees rest)

-- the plain trees that a list of items stands for
abbrev pub act_trees : List Act → ActTrees
act_trees [] = End
act_trees (a ∷ rest) = Then (act_tree a) (act_trees rest)

-- a name has depth 1, and a choice one more than the deepest of its parts
abbrev mutual
  pub act_depth : ActTree → ℕ
  act_depth (Start name) = 1
  act_depth (Choose test chosen) = suc (max (expr_depth test) (acts_depth chosen))
  act_depth (ChooseElse test chosen other) = suc (max (expr_depth test) (max (acts_depth chosen) (acts_depth other)))

  pub acts_depth : ActTrees → ℕ
  acts_depth End = 0
  acts_depth (Then a rest) = max (act_depth a) (acts_depth rest)
