-- Commands over files of other tools, and the counts of what stages did, refuse a description with its first fault, or none.
use Rattle.std.proofs.Common.{◌≡◌, ℕ, List, Some}
use Rattle.lisa_tree.specs.declared.faults.DescFault.{DescFault}
use Rattle.lisa_tree.specs.Descriptions.{DescriptionTree}
use Rattle.machine_parts.specs.Parts.{arrays_of}
use Rattle.lisa_engine.specs.declared.parts.Item.{Item}
use Rattle.lisa_engine.specs.declared.parts.ArrayItem.{ArrayItem}
use Rattle.lisa_object.specs.Texts.{image_text}
use Rattle.hex_files.specs.declared.formats.MemoryFormat.{MemoryFormat}
use Rattle.hex_files.specs.declared.formats.MemoryFormat.TheVariants as formats
use Rattle.vcd_trace.specs.Traces.{dump_trace}
use Rattle.vcd_trace.specs.VcdFaults.{Spells}
use Rattle.lisa_outcomes.specs.declared.status.Refusal.TheVariants as refusals
use Rattle.lisa_outcomes.specs.Outcomes.{Finished, Refusing, After}
use Rattle.lisa_outcomes.specs.RunFiles.{RunBytes}
use Rattle.engine_commands.specs.Images.{IsMissing}
use Rattle.engine_commands.specs.Making.{IsMade}
use Rattle.engine_commands.specs.Replays.{IsNoDump, GivesReplay}
use Rattle.engine_commands.specs.Schedules.{schedule_bytes, IsSchedule, IsNoSchedule}
use Rattle.verilog_command.specs.checked_descriptions.DescriptionImages.{IsImageFor, IsNoImageFor}
use Rattle.generator_commands.specs.description_commands.Occupancies.{Occupies, OccupiesMade, OccupiesChecked, GivesOccupancy}
use Rattle.generator_commands.specs.description_commands.Runs.{described_machine}
use Rattle.memory_commands.specs.DescriptionMemories.{IsMemory, IsNoMemory}
use Rattle.memory_commands.specs.Exports.{part_for, memory_text, AreArrays, ExportsPart, ExportsImage, ExportsChecked, GivesExport}
use Rattle.memory_commands.specs.Imports.{IsRead, IsUnread, image_alone, ImportsFile, ImportsChecked, GivesImport}
use Rattle.command_promises.specs.Refusals.{RefusesWith, RefusesFirsts}
use Rattle.command_promises.proofs.Refused.{IsQuiet, firsts, never_refuses, no_finish, quiet_after, none_missing, none_for}

-- ---- memories

none_named : (format : MemoryFormat) (d : DescriptionTree) (name : List ℕ) (f : DescFault) → IsNoMemory format d name (refusals.Description f) → ⊥
none_named formats.Hex d name f w = let e = w.1 in cc
none_named formats.Memh d name f w = let e = w.1 in cc

quiet_export : (format : MemoryFormat) (image name : List ℕ) → IsQuiet (ExportsChecked format image name)
quiet_export format image name c f text =
    quiet_after (IsImageFor c.tree (Some image)) (IsNoImageFor c.tree (Some image)) (ExportsImage format name c.tree) f text (none_for c.tree (Some image) f)
    (λ memories. quiet_after (AreArrays c.tree memories) (IsMissing (arrays_of c.tree) memories) (ExportsPart format name c.tree) f text (none_missing (arrays_of c.tree) memories f)
    (λ found. quiet_after (IsMemory c.tree name) (IsNoMemory format c.tree name) (λ memory outcome. outcome ≡ Finished (memory_text format (part_for found memory))) f text (none_named format c.tree name f)
    (λ memory e. no_finish (refusals.Description f) text (memory_text format (part_for found memory)) e)))

pub exports_firsts : (format : MemoryFormat) (bytes image name : List ℕ) → RefusesFirsts bytes (GivesExport format bytes image name)
exports_firsts format bytes image name = firsts (ExportsChecked format image name) (quiet_export format image name) bytes

none_unread : (format : MemoryFormat) (array : ArrayItem) (file : List ℕ) (f : DescFault) → IsUnread format array file (refusals.Description f) → ⊥
none_unread formats.Hex array file f w = let e = w.2 in cc
none_unread formats.Memh array file f w = let e = w.2 in cc

quiet_import : (format : MemoryFormat) (file name : List ℕ) → IsQuiet (ImportsChecked format file name)
quiet_import format file name c f text =
    quiet_after (IsMemory c.tree name) (IsNoMemory format c.tree name) (ImportsFile format file c.tree) f text (none_named format c.tree name f)
    (λ array. quiet_after (IsRead format array file) (IsUnread format array file) (λ memory outcome. outcome ≡ Finished (image_text (image_alone c.tree memory))) f text (none_unread format array file f)
    (λ memory e. no_finish (refusals.Description f) text (image_text (image_alone c.tree memory)) e))

pub imports_firsts : (format : MemoryFormat) (bytes file name : List ℕ) → RefusesFirsts bytes (GivesImport format bytes file name)
imports_firsts format bytes file name = firsts (ImportsChecked format file name) (quiet_import format file name) bytes

-- ---- occupancy

no_schedule : (pins : List Item) (schedule : List ℕ) (f : DescFault) → IsNoSchedule pins schedule (refusals.Description f) → ⊥
no_schedule pins schedule f w = let e = w.2 in cc

quiet_occupancy : (edges : ℕ) (bytes : RunBytes) → IsQuiet (OccupiesChecked edges bytes)
quiet_occupancy edges bytes c f text =
    let schedule = schedule_bytes bytes.schedule in
    quiet_after (IsImageFor c.tree bytes.image) (IsNoImageFor c.tree bytes.image) (OccupiesMade edges c schedule) f text (none_for c.tree bytes.image f)
    (λ memories. quiet_after (IsMade (described_machine c memories) memories) (IsMissing (described_machine c memories).arrays memories)
    (λ machine. After (IsSchedule machine.pins schedule) (IsNoSchedule machine.pins schedule) (Occupies edges c.tree memories machine)) f text (none_missing (described_machine c memories).arrays memories f)
    (λ machine. quiet_after (IsSchedule machine.pins schedule) (IsNoSchedule machine.pins schedule) (Occupies edges c.tree memories machine) f text (no_schedule machine.pins schedule f)
    (λ lines e. no_finish (refusals.Description f) text _ e)))

pub occupancies_firsts : (edges : ℕ) (bytes : RunBytes) → RefusesFirsts bytes.main (GivesOccupancy edges bytes)
occupancies_firsts edges bytes = firsts (OccupiesChecked edges bytes) (quiet_occupancy edges bytes) bytes.main

-- ---- dumps

no_dump : (bytes : List ℕ) (f : DescFault) → IsNoDump bytes (refusals.Description f) → ⊥
no_dump bytes f w = let e = w.2 in cc

pub replays_none : (bytes : List ℕ) → RefusesWith (λ f. ⊥) (GivesReplay bytes)
replays_none bytes = never_refuses (GivesReplay bytes) quiet
  where
    quiet : (f : DescFault) (text : List ℕ) → GivesReplay bytes (Refusing (refusals.Description f) text) → ⊥
    quiet f text x = quiet_after (Spells bytes) (IsNoDump bytes) (λ found outcome. outcome ≡ Finished (dump_trace found)) f text (no_dump bytes f)
        (λ found e. no_finish (refusals.Description f) text (dump_trace found) e) x
