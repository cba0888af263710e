-- What `fromhex` and `frommem` give.
use Rattle.std.specs.Prelude.{ℕ, ◌≡◌, List, [], ◌∷◌, Ok, Err}
use Rattle.lisa_tree.specs.Descriptions.{DescriptionTree}
use Rattle.description_digest.specs.Digests.{digest_of}
use Rattle.lisa_engine.specs.Memory.{Memory}
use Rattle.lisa_engine.specs.declared.parts.ArrayItem.{ArrayItem}
use Rattle.lisa_object.specs.Texts.{image_text}
use Rattle.lisa_object.specs.declared.parts.Stamped.{Stamped}
use Rattle.hex_files.specs.HexReading.{hex_of}
use Rattle.hex_files.specs.MemhReading.{memh_of}
use Rattle.hex_files.specs.declared.formats.MemoryFormat.{MemoryFormat}
use Rattle.hex_files.specs.declared.formats.MemoryFormat.TheVariants as formats
use Rattle.hex_files.specs.declared.faults.HexFault.{HexFault}
use Rattle.hex_files.specs.declared.faults.MemhFault.{MemhFault}
use Rattle.lisa_outcomes.specs.declared.status.Refusal.{Refusal}
use Rattle.lisa_outcomes.specs.declared.status.Refusal.TheVariants as refusals
use Rattle.lisa_outcomes.specs.Outcomes.{Outcome, Finished, After}
use Rattle.checked_descriptions.specs.Descriptions.{AfterSpelling}
use Rattle.checked_descriptions.specs.Checked.{Checked, AfterChecks}
use Rattle.memory_commands.specs.DescriptionMemories.{AfterMemory}

-- the most bytes of a file
abbrev pub memory_file_limit : ℕ
memory_file_limit = 134217728

-- the memory that bytes spell in a format, for this memory of the description
abbrev pub IsRead : MemoryFormat → ArrayItem → List ℕ → Memory → Type 0
IsRead formats.Hex array bytes memory = hex_of array bytes ≡ Ok memory
IsRead formats.Memh array bytes memory = memh_of array bytes ≡ Ok memory

-- bytes that spell none, and their first fault
abbrev pub IsUnread : MemoryFormat → ArrayItem → List ℕ → Refusal → Type 0
IsUnread formats.Hex array bytes refusal = (fault : HexFault) × (hex_of array bytes ≡ Err fault) × (refusal ≡ refusals.Hex fault)
IsUnread formats.Memh array bytes refusal = (fault : MemhFault) × (memh_of array bytes ≡ Err fault) × (refusal ≡ refusals.Memh fault)

-- the memories of an image that has this one alone, and none where it has no cells
abbrev pub with_cells_only : Memory → List ℕ → List Memory
with_cells_only memory [] = []
with_cells_only memory (cell ∷ cells) = memory ∷ []

-- the image of a memory alone, for this description
abbrev pub image_alone : DescriptionTree → Memory → Stamped
image_alone d memory = record { digest = digest_of d; image = with_cells_only memory memory.cells }

-- the text of the image of the memory that bytes spell
abbrev pub ImportsFile : MemoryFormat → (file : List ℕ) → DescriptionTree → ArrayItem → Outcome → Type 0
ImportsFile format file d array = After (IsRead format array file) (IsUnread format array file) (λ memory outcome. outcome ≡ Finished (image_text (image_alone d memory)))

-- over a description that is checked
abbrev pub ImportsChecked : MemoryFormat → (file name : List ℕ) → Checked → Outcome → Type 0
ImportsChecked format file name c = AfterMemory format c.tree name (ImportsFile format file c.tree)

-- over the bytes of a description and of a file: the description is read and checked first, then the memory of this name is looked up, and
-- then the file is read
abbrev pub GivesImport : MemoryFormat → (description file memory : List ℕ) → Outcome → Type 0
GivesImport format description file memory = AfterSpelling description (λ d. AfterChecks d (ImportsChecked format file memory))
