use Rattle.scene_paths.specs.Lookups.{tree_of}
use Rattle.lowered_words.specs.Kept.{AreChoices}
use Rattle.lowered_words.proofs.occurrences.choices.Given as goal

abbrev pub invariant-loop-number : goal.invariant-loop-number
invariant-loop-number g l = AreChoices (tree_of l.described) l.number l.choices.items
