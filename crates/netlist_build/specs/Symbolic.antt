-- What the symbols of the code stand for.
use Rattle.std.specs.Prelude.{Bool, List, reverse, position}
use Rattle.netlist_wires.specs.declared.keys.Flat.{Flat}
use Rattle.netlist_wires.specs.declared.keys.Key.{Key}
use Rattle.netlist_wires.specs.Wiring.{Find, Made, Sym, Going}
use Rattle.netlist_build.specs.declared.symbols.Symbols.{Symbols}

abbrev pub sym_of : Symbols → Sym
sym_of s = record { items = s.items.items; temps = s.temps.items; writes = reverse s.writes.items }

-- the first key that is equal
abbrev pub first : (Key → Key → Bool) → Find
first eq keys key = position (eq key) keys

abbrev pub made : Flat → List Key → Made
made flat keys = record { flat = flat; keys = keys }

abbrev pub going : Sym → List Key → Going
going sym keys = record { sym = sym; keys = keys }
