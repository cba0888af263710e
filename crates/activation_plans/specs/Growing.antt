-- Items in memory against the items that a description's activations unfold to.
use Rattle.std.specs.Prelude.{ℕ, ◌≡◌, ◌+◌, Bool, List}
use Rattle.lisa_tree.specs.Descriptions.{DescriptionTree}
use Rattle.lisa_tree.specs.Operations.{sections_at, coding_in}
use Rattle.coded_names.specs.Codings.{names_instructions}
use Rattle.lisa_meaning.specs.activation_trees.declared.parts.Occurrence.{Occurrence}
use Rattle.pipeline_time.specs.Acts.{Acts, Done, Act, size}
use Rattle.pipeline_runs.specs.Runs.{acts_of}
use Rattle.lisa_meaning.specs.Trees.{Activator, level_of_stage, acts_within}
use Rattle.activation_plans.specs.declared.growing.Above.{Above}
use Rattle.activation_plans.specs.declared.growing.Grown.{Grown}

-- an occurrence that activates, with what unfolds below one
abbrev pub activator : DescriptionTree → Above → Activator
activator d above = record { description = d; number = above.number; occurrence = above.occurrence; below = acts_within above.levels d }

-- an occurrence with its items, as an item
abbrev pub alone : ℕ → Occurrence → Acts → Acts
alone number x own = Act number (level_of_stage x.stage) x.past_root own Done

-- a name is that of the root's group
abbrev pub root_by : DescriptionTree → ℕ → List ℕ → Bool
root_by d o n = names_instructions n (coding_in (sections_at d o))

-- the items are these, numbered from a number on, and have so many `if`s
pub record IsGrown (grown : Grown) (acts : Acts) (from test more : ℕ) : Type 0 where
  pub acts_are : acts_of grown.tree ≡ acts
  pub next_is : grown.next ≡ from + size acts
  pub test_is : grown.test ≡ test + more
