-- What `tohex` and `tomem` give.
use Rattle.std.specs.Prelude.{ℕ, ◌≡◌, List, [], Some, None, find}
use Rattle.std.specs.Option.{unwrap_or}
use Rattle.lisa_tree.specs.Descriptions.{DescriptionTree}
use Rattle.lisa_engine.specs.Memory.{Memory}
use Rattle.lisa_engine.specs.Images.{is_array, missing_memory}
use Rattle.lisa_engine.specs.declared.parts.ArrayItem.{ArrayItem}
use Rattle.item_promises.specs.machine_parts.Parts.{arrays_of}
use Rattle.hex_files.specs.HexText.{hex_text}
use Rattle.hex_files.specs.MemhText.{memh_text}
use Rattle.hex_files.specs.declared.formats.MemoryFormat.{MemoryFormat}
use Rattle.hex_files.specs.declared.formats.MemoryFormat.TheVariants as formats
use Rattle.lisa_outcomes.specs.Outcomes.{Outcome, Finished, After}
use Rattle.checked_descriptions.specs.engine_commands.Images.{IsMissing}
use Rattle.checked_descriptions.specs.Descriptions.{AfterSpelling}
use Rattle.checked_descriptions.specs.Checked.{Checked, AfterChecks}
use Rattle.checked_descriptions.specs.DescriptionImages.{AfterImage}
use Rattle.memory_commands.specs.DescriptionMemories.{AfterMemory}

-- a memory of the array's name, width and depth that has no cells
abbrev pub empty_memory : ArrayItem → Memory
empty_memory array = record { name = array.name; width = array.width; depth = array.depth; cells = [] }

-- what an image has for a memory of the description: that memory with its cells, or without cells where the image lacks it
abbrev pub part_for : List Memory → ArrayItem → Memory
part_for image array = unwrap_or (find (λ memory. is_array memory array) image) (empty_memory array)

-- the text of a memory in a format
abbrev pub memory_text : MemoryFormat → Memory → List ℕ
memory_text formats.Hex memory = hex_text memory
memory_text formats.Memh memory = memh_text memory

-- over an image's memories: the text of what it has for the memory of this name
abbrev pub ExportsPart : MemoryFormat → (name : List ℕ) → DescriptionTree → List Memory → Outcome → Type 0
ExportsPart format name d image = AfterMemory format d name (λ memory outcome. outcome ≡ Finished (memory_text format (part_for image memory)))

-- an image's memories, each of which is an array of the description
abbrev pub AreArrays : DescriptionTree → List Memory → List Memory → Type 0
AreArrays d image found = (missing_memory (arrays_of d) image ≡ None) × (found ≡ image)

-- the first memory of the image that is no array of the description is the refusal
abbrev pub ExportsImage : MemoryFormat → (name : List ℕ) → DescriptionTree → List Memory → Outcome → Type 0
ExportsImage format name d image = After (AreArrays d image) (IsMissing (arrays_of d) image) (ExportsPart format name d)

-- over a description that is checked
abbrev pub ExportsChecked : MemoryFormat → (image name : List ℕ) → Checked → Outcome → Type 0
ExportsChecked format image name c = AfterImage c.tree (Some image) (ExportsImage format name c.tree)

-- over the bytes of a description and of an image: the description is read and checked first, then the image, and then the memory of this
-- name is looked up
abbrev pub GivesExport : MemoryFormat → (description image memory : List ℕ) → Outcome → Type 0
GivesExport format description image memory = AfterSpelling description (λ d. AfterChecks d (ExportsChecked format image memory))
