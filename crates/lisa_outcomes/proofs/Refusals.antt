-- A fault that is no want of memory makes a refusal.
use Rattle.std.proofs.Common.{◌≡◌, ◌≢◌, List, ℕ}
use Rattle.asm_source.specs.declared.flaw.SourceFault.{SourceFault}
use Rattle.asm_source.specs.declared.flaw.SourceFault.TheVariants as sources
use Rattle.hex_files.specs.declared.faults.HexFault.{HexFault}
use Rattle.hex_files.specs.declared.faults.HexFault.TheVariants as hexes
use Rattle.hex_files.specs.declared.faults.MemhFault.{MemhFault}
use Rattle.hex_files.specs.declared.faults.MemhFault.TheVariants as memhs
use Rattle.lisa_board.specs.declared.fault.BoardFault.{BoardFault}
use Rattle.lisa_board.specs.declared.fault.BoardFault.TheVariants as boards
use Rattle.lisa_engine.specs.declared.schedule.ScheduleFault.{ScheduleFault}
use Rattle.lisa_engine.specs.declared.schedule.ScheduleFault.TheVariants as schedules
use Rattle.lisa_object.specs.declared.faults.GenFault.{GenFault}
use Rattle.lisa_object.specs.declared.faults.GenFault.TheVariants as programs
use Rattle.lisa_object.specs.declared.faults.ImageFault.{ImageFault}
use Rattle.lisa_object.specs.declared.faults.ImageFault.TheVariants as images
use Rattle.lisa_object.specs.declared.faults.LinkFault.{LinkFault}
use Rattle.lisa_object.specs.declared.faults.LinkFault.TheVariants as links
use Rattle.lisa_object.specs.declared.faults.ObjectFault.{ObjectFault}
use Rattle.lisa_object.specs.declared.faults.ObjectFault.TheVariants as objects
use Rattle.lisa_tree.specs.declared.faults.DescFault.{DescFault}
use Rattle.lisa_tree.specs.declared.faults.DescFault.TheVariants as descriptions
use Rattle.step_program.specs.declared.faults.LowerFault.{LowerFault}
use Rattle.step_program.specs.declared.faults.LowerFault.TheVariants as netlists
use Rattle.vcd_trace.specs.declared.faults.VcdFault.{VcdFault}
use Rattle.vcd_trace.specs.declared.faults.VcdFault.TheVariants as vcds
use Rattle.verilog_text.specs.declared.faults.VerilogFault.{VerilogFault}
use Rattle.verilog_text.specs.declared.faults.VerilogFault.TheVariants as verilogs
use Rattle.lisa_outcomes.specs.declared.status.Refusal.TheVariants as refusals
use Rattle.lisa_outcomes.specs.declared.status.FileFault.{FileFault}
use Rattle.lisa_outcomes.specs.declared.status.FileFault.TheVariants as file_faults
use Rattle.lisa_outcomes.specs.declared.status.InputFault.{InputFault}
use Rattle.lisa_outcomes.specs.declared.status.InputFault.TheVariants as input_faults
use Rattle.lisa_outcomes.specs.Refusals.{IsRefusal}

same_file : (a b : FileFault) → refusals.File a ≡ refusals.File b → a ≡ b
same_file a b e = cc

pub file_refusal : (fault : FileFault) → fault ≢ file_faults.NoMemory → IsRefusal (refusals.File fault)
file_refusal fault other = record {
  file = λ e. other (same_file _ _ e);
  input = λ e. cc;
  program = λ e. cc;
  netlist = λ e. cc;
  description = λ e. cc;
  verilog = λ e. cc;
  image = λ e. cc;
  object = λ e. cc;
  schedule = λ e. cc;
  source = λ e. cc;
  link = λ e. cc;
  hex = λ e. cc;
  memh = λ e. cc;
  vcd = λ e. cc;
  board = λ e. cc;
}

same_input : (a b : InputFault) → refusals.Input a ≡ refusals.Input b → a ≡ b
same_input a b e = cc

pub input_refusal : (fault : InputFault) → fault ≢ input_faults.NoMemory → IsRefusal (refusals.Input fault)
input_refusal fault other = record {
  file = λ e. cc;
  input = λ e. other (same_input _ _ e);
  program = λ e. cc;
  netlist = λ e. cc;
  description = λ e. cc;
  verilog = λ e. cc;
  image = λ e. cc;
  object = λ e. cc;
  schedule = λ e. cc;
  source = λ e. cc;
  link = λ e. cc;
  hex = λ e. cc;
  memh = λ e. cc;
  vcd = λ e. cc;
  board = λ e. cc;
}

same_program : (a b : GenFault) → refusals.Program a ≡ refusals.Program b → a ≡ b
same_program a b e = cc

pub program_refusal : (fault : GenFault) → fault ≢ programs.NoMemory → IsRefusal (refusals.Program fault)
program_refusal fault other = record {
  file = λ e. cc;
  input = λ e. cc;
  program = λ e. other (same_program _ _ e);
  netlist = λ e. cc;
  description = λ e. cc;
  verilog = λ e. cc;
  image = λ e. cc;
  object = λ e. cc;
  schedule = λ e. cc;
  source = λ e. cc;
  link = λ e. cc;
  hex = λ e. cc;
  memh = λ e. cc;
  vcd = λ e. cc;
  board = λ e. cc;
}

same_netlist : (a b : LowerFault) → refusals.Netlist a ≡ refusals.Netlist b → a ≡ b
same_netlist a b e = cc

pub netlist_refusal : (fault : LowerFault) → fault ≢ netlists.NoMemory → IsRefusal (refusals.Netlist fault)
netlist_refusal fault other = record {
  file = λ e. cc;
  input = λ e. cc;
  program = λ e. cc;
  netlist = λ e. other (same_netlist _ _ e);
  description = λ e. cc;
  verilog = λ e. cc;
  image = λ e. cc;
  object = λ e. cc;
  schedule = λ e. cc;
  source = λ e. cc;
  link = λ e. cc;
  hex = λ e. cc;
  memh = λ e. cc;
  vcd = λ e. cc;
  board = λ e. cc;
}

same_description : (a b : DescFault) → refusals.Description a ≡ refusals.Description b → a ≡ b
same_description a b e = cc

pub description_refusal : (fault : DescFault) → fault ≢ descriptions.NoMemory → IsRefusal (refusals.Description fault)
description_refusal fault other = record {
  file = λ e. cc;
  input = λ e. cc;
  program = λ e. cc;
  netlist = λ e. cc;
  description = λ e. other (same_description _ _ e);
  verilog = λ e. cc;
  image = λ e. cc;
  object = λ e. cc;
  schedule = λ e. cc;
  source = λ e. cc;
  link = λ e. cc;
  hex = λ e. cc;
  memh = λ e. cc;
  vcd = λ e. cc;
  board = λ e. cc;
}

same_verilog : (a b : VerilogFault) → refusals.Verilog a ≡ refusals.Verilog b → a ≡ b
same_verilog a b e = cc

pub verilog_refusal : (fault : VerilogFault) → fault ≢ verilogs.NoMemory → IsRefusal (refusals.Verilog fault)
verilog_refusal fault other = record {
  file = λ e. cc;
  input = λ e. cc;
  program = λ e. cc;
  netlist = λ e. cc;
  description = λ e. cc;
  verilog = λ e. other (same_verilog _ _ e);
  image = λ e. cc;
  object = λ e. cc;
  schedule = λ e. cc;
  source = λ e. cc;
  link = λ e. cc;
  hex = λ e. cc;
  memh = λ e. cc;
  vcd = λ e. cc;
  board = λ e. cc;
}

same_image : (a b : ImageFault) → refusals.Image a ≡ refusals.Image b → a ≡ b
same_image a b e = cc

pub image_refusal : (fault : ImageFault) → fault ≢ images.NoMemory → IsRefusal (refusals.Image fault)
image_refusal fault other = record {
  file = λ e. cc;
  input = λ e. cc;
  program = λ e. cc;
  netlist = λ e. cc;
  description = λ e. cc;
  verilog = λ e. cc;
  image = λ e. other (same_image _ _ e);
  object = λ e. cc;
  schedule = λ e. cc;
  source = λ e. cc;
  link = λ e. cc;
  hex = λ e. cc;
  memh = λ e. cc;
  vcd = λ e. cc;
  board = λ e. cc;
}

same_schedule : (a b : ScheduleFault) → refusals.Schedule a ≡ refusals.Schedule b → a ≡ b
same_schedule a b e = cc

pub schedule_refusal : (fault : ScheduleFault) → fault ≢ schedules.NoMemory → IsRefusal (refusals.Schedule fault)
schedule_refusal fault other = record {
  file = λ e. cc;
  input = λ e. cc;
  program = λ e. cc;
  netlist = λ e. cc;
  description = λ e. cc;
  verilog = λ e. cc;
  image = λ e. cc;
  object = λ e. cc;
  schedule = λ e. other (same_schedule _ _ e);
  source = λ e. cc;
  link = λ e. cc;
  hex = λ e. cc;
  memh = λ e. cc;
  vcd = λ e. cc;
  board = λ e. cc;
}

same_object : (a b : ObjectFault) → refusals.Object a ≡ refusals.Object b → a ≡ b
same_object a b e = cc

pub object_refusal : (fault : ObjectFault) → fault ≢ objects.NoMemory → IsRefusal (refusals.Object fault)
object_refusal fault other = record {
  file = λ e. cc;
  input = λ e. cc;
  program = λ e. cc;
  netlist = λ e. cc;
  description = λ e. cc;
  verilog = λ e. cc;
  image = λ e. cc;
  object = λ e. other (same_object _ _ e);
  schedule = λ e. cc;
  source = λ e. cc;
  link = λ e. cc;
  hex = λ e. cc;
  memh = λ e. cc;
  vcd = λ e. cc;
  board = λ e. cc;
}

same_source : (a b : SourceFault) → refusals.Source a ≡ refusals.Source b → a ≡ b
same_source a b e = cc

pub source_refusal : (fault : SourceFault) → fault ≢ sources.NoMemory → IsRefusal (refusals.Source fault)
source_refusal fault other = record {
  file = λ e. cc;
  input = λ e. cc;
  program = λ e. cc;
  netlist = λ e. cc;
  description = λ e. cc;
  verilog = λ e. cc;
  image = λ e. cc;
  object = λ e. cc;
  schedule = λ e. cc;
  source = λ e. other (same_source _ _ e);
  link = λ e. cc;
  hex = λ e. cc;
  memh = λ e. cc;
  vcd = λ e. cc;
  board = λ e. cc;
}

same_link : (a b : LinkFault) → refusals.Link a ≡ refusals.Link b → a ≡ b
same_link a b e = cc

pub link_refusal : (fault : LinkFault) → fault ≢ links.NoMemory → IsRefusal (refusals.Link fault)
link_refusal fault other = record {
  file = λ e. cc;
  input = λ e. cc;
  program = λ e. cc;
  netlist = λ e. cc;
  description = λ e. cc;
  verilog = λ e. cc;
  image = λ e. cc;
  object = λ e. cc;
  schedule = λ e. cc;
  source = λ e. cc;
  link = λ e. other (same_link _ _ e);
  hex = λ e. cc;
  memh = λ e. cc;
  vcd = λ e. cc;
  board = λ e. cc;
}

same_hex : (a b : HexFault) → refusals.Hex a ≡ refusals.Hex b → a ≡ b
same_hex a b e = cc

pub hex_refusal : (fault : HexFault) → fault ≢ hexes.NoMemory → IsRefusal (refusals.Hex fault)
hex_refusal fault other = record {
  file = λ e. cc;
  input = λ e. cc;
  program = λ e. cc;
  netlist = λ e. cc;
  description = λ e. cc;
  verilog = λ e. cc;
  image = λ e. cc;
  object = λ e. cc;
  schedule = λ e. cc;
  source = λ e. cc;
  link = λ e. cc;
  hex = λ e. other (same_hex _ _ e);
  memh = λ e. cc;
  vcd = λ e. cc;
  board = λ e. cc;
}

same_memh : (a b : MemhFault) → refusals.Memh a ≡ refusals.Memh b → a ≡ b
same_memh a b e = cc

pub memh_refusal : (fault : MemhFault) → fault ≢ memhs.NoMemory → IsRefusal (refusals.Memh fault)
memh_refusal fault other = record {
  file = λ e. cc;
  input = λ e. cc;
  program = λ e. cc;
  netlist = λ e. cc;
  description = λ e. cc;
  verilog = λ e. cc;
  image = λ e. cc;
  object = λ e. cc;
  schedule = λ e. cc;
  source = λ e. cc;
  link = λ e. cc;
  hex = λ e. cc;
  memh = λ e. other (same_memh _ _ e);
  vcd = λ e. cc;
  board = λ e. cc;
}

same_vcd : (a b : VcdFault) → refusals.Vcd a ≡ refusals.Vcd b → a ≡ b
same_vcd a b e = cc

pub vcd_refusal : (fault : VcdFault) → fault ≢ vcds.NoMemory → IsRefusal (refusals.Vcd fault)
vcd_refusal fault other = record {
  file = λ e. cc;
  input = λ e. cc;
  program = λ e. cc;
  netlist = λ e. cc;
  description = λ e. cc;
  verilog = λ e. cc;
  image = λ e. cc;
  object = λ e. cc;
  schedule = λ e. cc;
  source = λ e. cc;
  link = λ e. cc;
  hex = λ e. cc;
  memh = λ e. cc;
  vcd = λ e. other (same_vcd _ _ e);
  board = λ e. cc;
}

same_board : (a b : BoardFault) → refusals.Board a ≡ refusals.Board b → a ≡ b
same_board a b e = cc

pub board_refusal : (fault : BoardFault) → fault ≢ boards.NoMemory → IsRefusal (refusals.Board fault)
board_refusal fault other = record {
  file = λ e. cc;
  input = λ e. cc;
  program = λ e. cc;
  netlist = λ e. cc;
  description = λ e. cc;
  verilog = λ e. cc;
  image = λ e. cc;
  object = λ e. cc;
  schedule = λ e. cc;
  source = λ e. cc;
  link = λ e. cc;
  hex = λ e. cc;
  memh = λ e. cc;
  vcd = λ e. cc;
  board = λ e. other (same_board _ _ e);
}

-- a file that is too long makes one
pub too_long_refusal : (name : List ℕ) → IsRefusal (refusals.File (file_faults.TooLong name))
too_long_refusal name = file_refusal (file_faults.TooLong name) other
  where
    other : file_faults.TooLong name ≡ file_faults.NoMemory → ⊥
    other e = cc
