-- The memories of a description by their names.
use Rattle.std.specs.Prelude.{ℕ, ◌≡◌, Bool, ◌&&◌, List, Option, Some, None, find, zip}
use Rattle.std.specs.Option.{option_map}
use Rattle.std.specs.Str.{bytes_eq}
use Rattle.lisa_tree.specs.Descriptions.{DescriptionTree}
use Rattle.lisa_engine.specs.declared.parts.ArrayItem.{ArrayItem}
use Rattle.item_promises.specs.machine_parts.Parts.{arrays_of, memories_of}
use Rattle.hex_files.specs.declared.formats.MemoryFormat.{MemoryFormat}
use Rattle.hex_files.specs.declared.formats.MemoryFormat.TheVariants as formats
use Rattle.hex_files.specs.declared.faults.HexFault.TheVariants as hex
use Rattle.hex_files.specs.declared.faults.MemhFault.TheVariants as memh
use Rattle.lisa_outcomes.specs.declared.status.Refusal.{Refusal}
use Rattle.lisa_outcomes.specs.declared.status.Refusal.TheVariants as refusals
use Rattle.lisa_outcomes.specs.Outcomes.{Outcome, After}

-- an array that is told to be a memory, and has this name
abbrev pub is_memory_named : List ℕ → ArrayItem × Bool → Bool
is_memory_named name (array, is_memory) = is_memory && bytes_eq array.name name

-- the memory of this name; a register array is none
abbrev pub memory_named : DescriptionTree → List ℕ → Option ArrayItem
memory_named d name = option_map (λ told. told.0) (find (is_memory_named name) (zip (arrays_of d) (memories_of d)))

abbrev pub IsMemory : DescriptionTree → (name : List ℕ) → ArrayItem → Type 0
IsMemory d name memory = memory_named d name ≡ Some memory

-- the refusal of a name that is no memory's, by the format that is read or written
abbrev pub no_such_memory : MemoryFormat → List ℕ → Refusal
no_such_memory formats.Hex name = refusals.Hex (hex.NoSuchMemory name)
no_such_memory formats.Memh name = refusals.Memh (memh.NoSuchMemory name)

abbrev pub IsNoMemory : MemoryFormat → DescriptionTree → (name : List ℕ) → Refusal → Type 0
IsNoMemory format d name refusal = (memory_named d name ≡ None) × (refusal ≡ no_such_memory format name)

-- the outcome of a command that looks up a memory of the description
abbrev pub AfterMemory : MemoryFormat → DescriptionTree → (name : List ℕ) → (ArrayItem → Outcome → Type 0) → Outcome → Type 0
AfterMemory format d name Then = After (IsMemory d name) (IsNoMemory format d name) Then
