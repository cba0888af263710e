-- Memories of an array.
use Rattle.std.specs.Prelude.{ℕ, List}
use Rattle.lisa_engine.specs.Memory.{Memory}
use Rattle.lisa_engine.specs.declared.parts.ArrayItem.{ArrayItem}

-- a memory of the array's name, width and depth with these cells
abbrev pub with_cells : ArrayItem → List ℕ → Memory
with_cells array cells = record { name = array.name; width = array.width; depth = array.depth; cells = cells }
