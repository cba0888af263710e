-- What tables by names hold.
use Rattle.std.specs.Prelude.{ℕ, ℤ, Bool, true, false, List, [], ◌++◌, Option, Some, None, Vec, length, if◌then◌else◌}
use Rattle.std.specs.Global.{Global}
use Rattle.std.specs.Option.{option_or, IfSome}
use Rattle.std.specs.Str.{bytes_eq}
use Rattle.std.specs.BTreeMap.{BTreeMap}
use Rattle.std.specs.BTreeSet.{BTreeSet}
use Rattle.name_tables.specs.TableViews.{has_name, value_of}
use Rattle.asm_source.specs.Numbers.{IsShort}
use Rattle.lisa_engine.specs.Memory.{Memory}
use Rattle.lisa_engine.specs.declared.parts.ArrayItem.{ArrayItem}
use Rattle.lisa_linker.specs.declared.sums.Values.{Values}
use Rattle.placed_programs.specs.Addresses.{Counts}
use Rattle.placed_programs.specs.Symbols.{Symbols}

abbrev pub ByName : Type 0 → Type 0
ByName V = BTreeMap (List ℕ) V

abbrev pub NameSet : Type 0
NameSet = BTreeSet (List ℕ)

-- ---- values of names

-- what a name means by the values of its own object and those of the others
abbrev pub symbols_in : (own others : ByName ℤ) → Symbols
symbols_in own others name = option_or (value_of own name) (value_of others name)

-- each value has a size below 2 ^ 64
abbrev pub AreShort : ByName ℤ → Type 0
AreShort values = (name : List ℕ) → IfSome (value_of values name) (IsShort 1)

-- what a name means by an object's values and those of the others
abbrev pub symbols_of : Values → Symbols
symbols_of values = symbols_in values.own.now values.others.now

pub record HasShort (values : Values) : Type 0 where
  pub own : AreShort values.own.now
  pub others : AreShort values.others.now

-- a name is one of these, where there are some
abbrev pub is_wanted : Option NameSet → List ℕ → Bool
is_wanted None name = true
is_wanted (Some names) name = has_name names name

-- ---- cells of memories

abbrev pub cells_or_none : Option (Vec ℕ Global) → List ℕ
cells_or_none None = []
cells_or_none (Some v) = v.items

-- the cells of the memory of this name
abbrev pub cells_of : ByName (Vec ℕ Global) → List ℕ → List ℕ
cells_of cells memory = cells_or_none (value_of cells memory)

-- how many cells each memory has
abbrev pub sizes_of : ByName (Vec ℕ Global) → Counts
sizes_of cells memory = length (cells_of cells memory)

-- whether the memory is the one that is entered
abbrev pub is_here : List ℕ → Option (List ℕ) → Bool
is_here memory None = false
is_here memory (Some name) = bytes_eq memory name

-- these behind those, where it is so
abbrev pub behind_if : Bool → List ℕ → List ℕ → List ℕ
behind_if b more cells = if b then cells ++ more else cells

-- the memory with its cells
abbrev pub filled_with : (List ℕ → List ℕ) → ArrayItem → Memory
filled_with cells a = record { name = a.name; width = a.width; depth = a.depth; cells = cells a.name }
