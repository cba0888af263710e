-- What a refusal never holds.
use Rattle.std.specs.Prelude.{◌≢◌}
use Rattle.asm_source.specs.declared.flaw.SourceFault.TheVariants as sources
use Rattle.hex_files.specs.declared.faults.HexFault.TheVariants as hexes
use Rattle.hex_files.specs.declared.faults.MemhFault.TheVariants as memhs
use Rattle.lisa_board.specs.declared.fault.BoardFault.TheVariants as boards
use Rattle.lisa_engine.specs.declared.schedule.ScheduleFault.TheVariants as schedules
use Rattle.lisa_object.specs.declared.faults.GenFault.TheVariants as programs
use Rattle.lisa_object.specs.declared.faults.ImageFault.TheVariants as images
use Rattle.lisa_object.specs.declared.faults.LinkFault.TheVariants as links
use Rattle.lisa_object.specs.declared.faults.ObjectFault.TheVariants as objects
use Rattle.lisa_tree.specs.declared.faults.DescFault.TheVariants as descriptions
use Rattle.step_program.specs.declared.faults.LowerFault.TheVariants as netlists
use Rattle.vcd_trace.specs.declared.faults.VcdFault.TheVariants as vcds
use Rattle.verilog_text.specs.declared.faults.VerilogFault.TheVariants as verilogs
use Rattle.lisa_outcomes.specs.declared.status.Refusal.{Refusal}
use Rattle.lisa_outcomes.specs.declared.status.Refusal.TheVariants as refusals
use Rattle.lisa_outcomes.specs.declared.status.FileFault.TheVariants as file_faults
use Rattle.lisa_outcomes.specs.declared.status.InputFault.TheVariants as input_faults

-- it is no want of memory, in whatever area
pub record IsRefusal (refusal : Refusal) : Type 0 where
  pub file : refusal ≢ refusals.File file_faults.NoMemory
  pub input : refusal ≢ refusals.Input input_faults.NoMemory
  pub program : refusal ≢ refusals.Program programs.NoMemory
  pub netlist : refusal ≢ refusals.Netlist netlists.NoMemory
  pub description : refusal ≢ refusals.Description descriptions.NoMemory
  pub verilog : refusal ≢ refusals.Verilog verilogs.NoMemory
  pub image : refusal ≢ refusals.Image images.NoMemory
  pub object : refusal ≢ refusals.Object objects.NoMemory
  pub schedule : refusal ≢ refusals.Schedule schedules.NoMemory
  pub source : refusal ≢ refusals.Source sources.NoMemory
  pub link : refusal ≢ refusals.Link links.NoMemory
  pub hex : refusal ≢ refusals.Hex hexes.NoMemory
  pub memh : refusal ≢ refusals.Memh memhs.NoMemory
  pub vcd : refusal ≢ refusals.Vcd vcds.NoMemory
  pub board : refusal ≢ refusals.Board boards.NoMemory
