-- How many scopes are open.
use Rattle.std.specs.Prelude.{ℕ, ◌<◌, ⊤}
use Rattle.vcd_trace.specs.declared.places.Place.{Place}
use Rattle.vcd_trace.specs.declared.places.Place.TheVariants.{Head, Body}

abbrev pub IsOpenBelow : Place → ℕ → Type 0
IsOpenBelow (Head depth) most = depth < most
IsOpenBelow (Body inside) most = ⊤
