-- Locals with their values.
use Rattle.std.specs.Prelude.{ℕ, List, map}
use Rattle.typed_values.specs.Words.{TypedWord, typed_word}
use Rattle.typed_values.specs.Effects.{Locals}
use Rattle.moment_stores.specs.declared.locals.Local.{Local}

abbrev pub local_pair : Local → List ℕ × TypedWord
local_pair local = (local.name.now, typed_word local.value)

abbrev pub local_pairs : List Local → Locals
local_pairs all = map local_pair all
