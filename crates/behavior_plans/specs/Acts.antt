-- Statements whose names are resolved to places, as plain trees.
use Rattle.std.specs.Prelude.{ℕ, List, [], ◌∷◌, Option}
use Rattle.std.specs.Option.{option_map}
use Rattle.lisa_tree.specs.declared.tokens.Shape.{Shape}
use Rattle.shape_checks.specs.declared.bounds.Bounds.{Bounds}
use Rattle.behavior_plans.specs.Terms.{TermTree, term_tree}
use Rattle.behavior_plans.specs.Spots.{SpotTree, spot_tree}
use Rattle.behavior_plans.specs.declared.acts.Loop.{Loop}
use Rattle.behavior_plans.specs.declared.acts.Act.{Act, Block', Row_of-Act, end_of-Act, more_of-Act}
use Rattle.behavior_plans.specs.declared.acts.Act.TheVariants as acts

-- the slot and the type of a loop's variable, and its values
pub record LoopTree : Type 0 where
  pub slot : ℕ
  pub shape : Option Shape
  pub bounds : Bounds

mutual
  pub data ActTree : Type 0 where
    Empty : ActTree
    Block : ActTrees → ActTree
    -- the slot, the type, and what the local holds first
    Local : ℕ → Shape → Option TermTree → ActTree
    Assign : SpotTree → TermTree → ActTree
    If : TermTree → ActTree → ActTree
    IfElse : TermTree → ActTree → ActTree → ActTree
    For : LoopTree → ActTree → ActTree
    -- by the stage's level
    Stall : ℕ → ActTree
    Flush : ℕ → ActTree

  -- a list of acts
  pub data ActTrees : Type 0 where
    End : ActTrees
    Then : ActTree → ActTrees → ActTrees

abbrev pub loop_tree : Loop → LoopTree
loop_tree loop = record { slot = loop.slot; shape = loop.shape; bounds = loop.bounds }

abbrev mutual
  -- the plain tree that an act stands for
  pub act_tree : Act → ActTree
  act_tree acts.Empty = Empty
  act_tree (Block' shape row) = Block (row_trees row)
  act_tree (acts.Local slot shape first) = Local slot shape (option_map term_tree first)
  act_tree (acts.Assign spot value) = Assign (spot_tree spot) (term_tree value)
  act_tree (acts.If' test p chosen) = If (term_tree test) (act_tree chosen)
  act_tree (acts.IfElse' test p chosen q other) = IfElse (term_tree test) (act_tree chosen) (act_tree other)
  act_tree (acts.For' loop p body) = For (loop_tree loop) (act_tree body)
  act_tree (acts.Stall level) = Stall level
  act_tree (acts.Flush level) = Flush level

  pub row_trees : {m : _} → Row_of-Act m → ActTrees
  row_trees end_of-Act = End
  row_trees (more_of-Act a rest) = Then (act_tree a) (row_trees rest)

-- the plain trees that a list of acts stands for
abbrev pub act_trees : List Act → ActTrees
act_trees [] = End
act_trees (a ∷ rest) = Then (act_tree a) (act_trees rest)
