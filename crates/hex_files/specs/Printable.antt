-- Memories that are printed.
use Rattle.std.specs.Prelude.{◌<◌, ◌≤◌, ◌^◌, length, All}
use Rattle.lisa_engine.specs.Memory.{Memory}
use Rattle.lisa_engine.specs.Images.{IsDepth}
use Rattle.lisa_engine.specs.declared.parts.ArrayItem.{ArrayItem}

-- a memory with as many cells as it is deep, or fewer or none, each within its width
pub record IsPrintable (memory : Memory) : Type 0 where
  pub some : 1 ≤ memory.width
  pub wide : memory.width ≤ 64
  pub depth : IsDepth memory.depth
  pub room : length memory.cells ≤ memory.depth
  pub within : All (λ value. value < 2 ^ memory.width) memory.cells

-- the array of its name, width and depth
abbrev pub array_of : Memory → ArrayItem
array_of memory = record { name = memory.name; width = memory.width; depth = memory.depth }
