-- What the code's values stand for.
use Rattle.std.specs.Prelude.{Option, None, Some}
use Rattle.lisa_tree.specs.declared.tokens.Shape.{Shape}
use Rattle.lisa_tree.specs.Descriptions as trees
use Rattle.lisa_tree.specs.Descriptions.{ResourceTree}
use Rattle.lowered_resources.specs.declared.told.Told.{Told}
use Rattle.lowered_resources.specs.declared.told.Told.TheVariants as told
use Rattle.lowered_resources.specs.Places.{Lasting, Written, Out, Stall, Flush}

abbrev pub lasting_of : Told → Lasting
lasting_of (told.Written boundary field) = Written boundary field
lasting_of (told.Out boundary field) = Out boundary field
lasting_of (told.Stall level) = Stall level
lasting_of (told.Flush level) = Flush level

-- the type of a register that is no array
abbrev pub register_shape : ResourceTree → Option Shape
register_shape (trees.Register word shape name None) = Some shape
register_shape (trees.Register word shape name (Some depth)) = None
register_shape (trees.Clocked word shape name) = Some shape
register_shape (trees.Memory word shape name depth) = None
register_shape (trees.Pin shape name) = None
register_shape (trees.Pipeline name stages) = None
register_shape (trees.Fields pipe fields) = None
