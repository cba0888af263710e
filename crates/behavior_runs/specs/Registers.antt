-- Registers that are no arrays, as places.
use Rattle.std.specs.Prelude.{Option, None, Some}
use Rattle.lisa_tree.specs.declared.tokens.Shape.{Shape}
use Rattle.lisa_tree.specs.Descriptions as trees
use Rattle.lisa_tree.specs.Descriptions.{ResourceTree}
use Rattle.scene_paths.specs.lisa_meaning.Moments.{Moment}
use Rattle.scene_paths.specs.lisa_meaning.Effects.{Given, bits_for, register_put}
use Rattle.behavior_runs.specs.declared.register.Register.{Register}

-- the type of such a register, clocked or not
abbrev pub register_shape : ResourceTree → Option Shape
register_shape (trees.Register word shape name None) = Some shape
register_shape (trees.Register word shape name (Some depth)) = None
register_shape (trees.Clocked word shape name) = Some shape
register_shape (trees.Memory word shape name depth) = None
register_shape (trees.Pin shape name) = None
register_shape (trees.Pipeline name stages) = None
register_shape (trees.Fields pipe fields) = None

-- what is given goes to the register, if there is one
abbrev pub put_in : Option Register → Given → Moment → Moment
put_in None given m = m
put_in (Some r) given m = register_put r.place (bits_for r.shape given) m
