-- Files of objects, and what they spell, as the code has them.
use Rattle.std.specs.Prelude.{ℕ, List, map}
use Rattle.std.specs.Global.{Vec}
use Rattle.lisa_object.specs.declared.parts.Object.{Object}
use Rattle.lisa_object.specs.Objects.{PlainObject, object_tree}

abbrev pub texts_of : List (Vec ℕ) → List (List ℕ)
texts_of files = map (λ bytes. bytes.items) files

abbrev pub trees_of : List Object → List PlainObject
trees_of objects = map object_tree objects
