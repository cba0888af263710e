-- What each status has on the second stream.
use Rattle.std.specs.Prelude.{ℕ, List, [], codes, Bool, true, false}
use Rattle.lisa_outcomes.specs.declared.status.Refusal.{Refusal}
use Rattle.lisa_outcomes.specs.declared.status.Refusal.TheVariants as refusals
use Rattle.lisa_outcomes.specs.declared.status.Status.{Status}
use Rattle.lisa_outcomes.specs.declared.status.Status.TheVariants as statuses
use Rattle.refusal_lines.specs.Lines.{Line, line_text}
use Rattle.refusal_lines.specs.DescriptionLines.{description_line}
use Rattle.refusal_lines.specs.OwnLines.{file_line, input_line, program_line}
use Rattle.refusal_lines.specs.ModuleLines.{netlist_line, verilog_line, image_line, schedule_line, board_line}
use Rattle.refusal_lines.specs.SourceLines.{source_line, object_line, link_line}
use Rattle.refusal_lines.specs.ToolLines.{hex_line, memh_line, vcd_line}

abbrev pub refusal_line : Refusal → Line
refusal_line (refusals.File fault) = file_line fault
refusal_line (refusals.Input fault) = input_line fault
refusal_line (refusals.Program fault) = program_line fault
refusal_line (refusals.Netlist fault) = netlist_line fault
refusal_line (refusals.Description fault) = description_line fault
refusal_line (refusals.Verilog fault) = verilog_line fault
refusal_line (refusals.Image fault) = image_line fault
refusal_line (refusals.Object fault) = object_line fault
refusal_line (refusals.Schedule fault) = schedule_line fault
refusal_line (refusals.Source fault) = source_line fault
refusal_line (refusals.Link fault) = link_line fault
refusal_line (refusals.Hex fault) = hex_line fault
refusal_line (refusals.Memh fault) = memh_line fault
refusal_line (refusals.Vcd fault) = vcd_line fault
refusal_line (refusals.Board fault) = board_line fault

abbrev pub usage_text : List ℕ
usage_text = codes "usage: lisa check|fmt|verilog|run|trace|clock|clocktrace|asm|link|dis|debug|vdebug|gen|soak|tohex|fromhex|tomem|frommem|vcd|vvcd|unvcd|occupancy|board|vboard ..\n"

abbrev pub status_text : Status → List ℕ
status_text statuses.Done = []
status_text (statuses.Refused refusal) = line_text (refusal_line refusal)
status_text statuses.Usage = usage_text
status_text statuses.ReadFault = codes "lisa: read fault\n"
status_text statuses.WriteFault = []
status_text statuses.NoMemory = codes "lisa: out of memory\n"

-- it has a line there
abbrev pub has_line : Status → Bool
has_line statuses.Done = false
has_line (statuses.Refused refusal) = true
has_line statuses.Usage = true
has_line statuses.ReadFault = true
has_line statuses.WriteFault = false
has_line statuses.NoMemory = true
