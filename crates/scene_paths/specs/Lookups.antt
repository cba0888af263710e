-- The description whose names and resources are looked up.
use Rattle.lisa_tree.specs.declared.descriptions.Description.{Description}
use Rattle.std.specs.Prelude.{Option, None, Some}
use Rattle.lisa_tree.specs.Descriptions as trees
use Rattle.lisa_tree.specs.Descriptions.{ResourceTree, DescriptionTree, description_tree}
use Rattle.lisa_meaning.specs.Values as values
use Rattle.scene_paths.specs.declared.array.Array.{Array}
use Rattle.scene_paths.specs.declared.array.ArrayType.{ArrayType}

-- contracts see look-ups as the description
abbrev pub tree_of : Description → DescriptionTree
tree_of d = description_tree d

-- an array with its type and its depth
abbrev pub array_of : Array → values.Array
array_of a = record { place = a.place; shape = a.shape; depth = a.depth }

-- the type and the depth of an array
abbrev pub array_type : ResourceTree → Option ArrayType
array_type (trees.Register word shape name None) = None
array_type (trees.Register word shape name (Some depth)) = Some (record { shape = shape; depth = depth })
array_type (trees.Clocked word shape name) = None
array_type (trees.Memory word shape name depth) = Some (record { shape = shape; depth = depth })
array_type (trees.Pin shape name) = None
array_type (trees.Pipeline name stages) = None
array_type (trees.Fields pipe fields) = None
