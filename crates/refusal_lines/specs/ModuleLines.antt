-- The lines of the faults of a netlist, a module, an image, a schedule and a board.
use Rattle.std.specs.Prelude.{[], ◌∷◌, codes}
use Rattle.lisa_board.specs.declared.fault.BoardFault.{BoardFault}
use Rattle.lisa_board.specs.declared.fault.BoardFault.TheVariants as boards
use Rattle.lisa_engine.specs.declared.schedule.ScheduleFault.{ScheduleFault}
use Rattle.lisa_engine.specs.declared.schedule.ScheduleFault.TheVariants as schedules
use Rattle.lisa_object.specs.declared.faults.ImageFault.{ImageFault}
use Rattle.lisa_object.specs.declared.faults.ImageFault.TheVariants as images
use Rattle.step_program.specs.declared.faults.LowerFault.{LowerFault}
use Rattle.step_program.specs.declared.faults.LowerFault.TheVariants as netlists
use Rattle.verilog_text.specs.declared.faults.VerilogFault.{VerilogFault}
use Rattle.verilog_text.specs.declared.faults.VerilogFault.TheVariants as verilogs
use Rattle.refusal_lines.specs.Lines.{Line, line, name, number, digest}

-- want of memory is no refusal, and has no line of its own
abbrev pub netlist_line : LowerFault → Line
netlist_line (netlists.TooMany what count limit) = line (codes "netlist 1 TooMany") (name (codes "what") what ∷ number (codes "count") count ∷ number (codes "limit") limit ∷ [])
netlist_line netlists.NoMemory = line [] []

abbrev pub verilog_line : VerilogFault → Line
verilog_line (verilogs.BadByte at) = line (codes "verilog 1 BadByte") (number (codes "at") at ∷ [])
verilog_line (verilogs.TooDeep at) = line (codes "verilog 2 TooDeep") (number (codes "at") at ∷ [])
verilog_line (verilogs.NotInSubset at) = line (codes "verilog 3 NotInSubset") (number (codes "at") at ∷ [])
verilog_line (verilogs.DuplicateName n) = line (codes "verilog 4 DuplicateName") (name (codes "name") n ∷ [])
verilog_line (verilogs.UsedBeforeDeclared n) = line (codes "verilog 5 UsedBeforeDeclared") (name (codes "name") n ∷ [])
verilog_line (verilogs.WrongUse n) = line (codes "verilog 6 WrongUse") (name (codes "name") n ∷ [])
verilog_line (verilogs.NoInitial n) = line (codes "verilog 7 NoInitial") (name (codes "name") n ∷ [])
verilog_line (verilogs.IndexWidth n width needed) = line (codes "verilog 8 IndexWidth") (name (codes "name") n ∷ number (codes "width") width ∷ number (codes "needed") needed ∷ [])
verilog_line (verilogs.TooWide at) = line (codes "verilog 9 TooWide") (number (codes "at") at ∷ [])
verilog_line (verilogs.TwoDrivers n) = line (codes "verilog 10 TwoDrivers") (name (codes "name") n ∷ [])
verilog_line (verilogs.TooMany what count limit) = line (codes "verilog 11 TooMany") (name (codes "what") what ∷ number (codes "count") count ∷ number (codes "limit") limit ∷ [])
verilog_line verilogs.NoMemory = line [] []

abbrev pub image_line : ImageFault → Line
image_line (images.NotAnImage at) = line (codes "image 1 NotAnImage") (number (codes "line") at ∷ [])
image_line (images.OtherDescription kept expected) = line (codes "image 2 OtherDescription") (digest (codes "kept") kept ∷ digest (codes "expected") expected ∷ [])
image_line (images.NoSuchMemory n) = line (codes "image 3 NoSuchMemory") (name (codes "name") n ∷ [])
image_line images.NoMemory = line [] []

abbrev pub schedule_line : ScheduleFault → Line
schedule_line (schedules.BadLine at) = line (codes "schedule 1 BadLine") (number (codes "line") at ∷ [])
schedule_line (schedules.UnknownPin at n) = line (codes "schedule 2 UnknownPin") (number (codes "line") at ∷ name (codes "name") n ∷ [])
schedule_line (schedules.NotRising at) = line (codes "schedule 3 NotRising") (number (codes "line") at ∷ [])
schedule_line (schedules.PinRange at n value) = line (codes "schedule 4 PinRange") (number (codes "line") at ∷ name (codes "name") n ∷ number (codes "value") value ∷ [])
schedule_line schedules.NoMemory = line [] []

abbrev pub board_line : BoardFault → Line
board_line (boards.BadLine at) = line (codes "board 1 BadLine") (number (codes "line") at ∷ [])
board_line (boards.UnknownItem at n) = line (codes "board 2 UnknownItem") (number (codes "line") at ∷ name (codes "name") n ∷ [])
board_line (boards.UnknownPin at n) = line (codes "board 3 UnknownPin") (number (codes "line") at ∷ name (codes "name") n ∷ [])
board_line (boards.PinTaken at n) = line (codes "board 4 PinTaken") (number (codes "line") at ∷ name (codes "name") n ∷ [])
board_line (boards.PinWidth at n width) = line (codes "board 5 PinWidth") (number (codes "line") at ∷ name (codes "name") n ∷ number (codes "width") width ∷ [])
board_line (boards.TooMany at what limit) = line (codes "board 6 TooMany") (number (codes "line") at ∷ name (codes "what") what ∷ number (codes "limit") limit ∷ [])
board_line boards.NoMemory = line [] []
