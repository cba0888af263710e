-- The description whose forms are asked.
use Rattle.lisa_tree.specs.Descriptions.{DescriptionTree, description_tree}
use Rattle.occurrence_choices.specs.declared.choices.Choices.{Choices}

abbrev pub choices_tree : Choices → DescriptionTree
choices_tree choices = description_tree choices.machine.now
