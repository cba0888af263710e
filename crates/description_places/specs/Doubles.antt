-- A small condition: a local isn't declared under the name of one that is in scope.
use Rattle.std.specs.Prelude.{ℕ, List, Option, None, Some}
use Rattle.lisa_tree.specs.declared.faults.DescFault.{DescFault}
use Rattle.lisa_tree.specs.declared.faults.DescFault.TheVariants as faults
use Rattle.description_places.specs.declared.scopes.Local.{Local}
use Rattle.description_places.specs.Scopes.{Scope, local_named}
use Rattle.description_places.specs.Places as at
use Rattle.description_places.specs.Places.{Place}

abbrev pub doubled_in : Option Local → List ℕ → Option DescFault
doubled_in None n = None
doubled_in (Some local) n = Some (faults.Duplicate n)

abbrev pub doubled : Scope → Place → Option DescFault
doubled scope (at.Local shape n value) = doubled_in (local_named n scope) n
doubled scope _ = None
