-- The types of declared names.
use Rattle.lisa_tree.specs.Descriptions.{DescriptionTree, description_tree}
use Rattle.description_types.specs.Types.{Types}
use Rattle.description_types.specs.Tables.{known_by}
use Rattle.lowered_behaviors.specs.declared.types.NameTypes.{NameTypes}

-- the description whose names have them
abbrev pub types_tree : NameTypes → DescriptionTree
types_tree t = description_tree t.tables.globals.description.now

abbrev pub types_of : NameTypes → Types
types_of t = (known_by t.kinds).types
