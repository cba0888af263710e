-- Images: the contents that memories begin with.
use Rattle.std.specs.Prelude.{ℕ, ◌-◌, ◌<◌, ◌≤◌, ◌^◌, ◌≡◌, ◌≢◌, ◌==◌, ◌&&◌, ◌++◌, not, List, [], length, map, replicate, All, AllPairs, sum_by, find, Bool, Option}
use Rattle.std.specs.List.{list_any}
use Rattle.std.specs.Option.{option_map_or, option_map}
use Rattle.std.specs.Str.{bytes_eq}
use Rattle.lisa_engine.specs.Memory.{Memory}
use Rattle.lisa_engine.specs.declared.parts.ArrayItem.{ArrayItem}

-- the depth of an array
abbrev pub IsDepth : ℕ → Type 0
IsDepth depth = (k : ℕ) × (1 ≤ k) × (k ≤ 20) × (depth ≡ 2 ^ k)

-- a memory of an image has from 1 cell to as many as it is deep, each within its width
pub record IsMemory (memory : Memory) : Type 0 where
  pub narrow : 1 ≤ memory.width
  pub wide : memory.width ≤ 64
  pub depth : IsDepth memory.depth
  pub some : 1 ≤ length memory.cells
  pub room : length memory.cells ≤ memory.depth
  pub within : All (λ value. value < 2 ^ memory.width) memory.cells

-- the rules that each image keeps
pub record IsImage (image : List Memory) : Type 0 where
  pub memories : All IsMemory image
  pub distinct : AllPairs (λ a b. a.name ≢ b.name) image
  pub total : sum_by (λ memory. length memory.cells) image ≤ 4194304

abbrev pub has_name : List ℕ → Memory → Bool
has_name name memory = bytes_eq memory.name name

-- the memory is this array: it has its name, width and depth
abbrev pub is_array : Memory → ArrayItem → Bool
is_array memory array = has_name array.name memory && memory.width == array.width && memory.depth == array.depth

-- the name of the first memory that is none of the arrays
abbrev pub missing_memory : List ArrayItem → List Memory → Option (List ℕ)
missing_memory arrays image = option_map (λ memory. memory.name) (find (λ memory. not (list_any (is_array memory) arrays)) image)

-- what an array holds first: the cells that the image has for it, and 0 from there on
abbrev pub loaded : List Memory → ArrayItem → List ℕ
loaded image array =
    let cells = option_map_or (λ memory. memory.cells) (find (has_name array.name) image) [] in
    cells ++ replicate (array.depth - length cells) 0

abbrev pub first_cells : List ArrayItem → List Memory → List (List ℕ)
first_cells arrays image = map (loaded image) arrays
