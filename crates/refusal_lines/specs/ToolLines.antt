-- The lines of the faults of files that other tools write or read: memories in two formats, and value change dumps.
use Rattle.std.specs.Prelude.{[], ◌∷◌, codes}
use Rattle.hex_files.specs.declared.faults.HexFault.{HexFault}
use Rattle.hex_files.specs.declared.faults.HexFault.TheVariants as hexes
use Rattle.hex_files.specs.declared.faults.MemhFault.{MemhFault}
use Rattle.hex_files.specs.declared.faults.MemhFault.TheVariants as memhs
use Rattle.vcd_trace.specs.declared.faults.VcdFault.{VcdFault}
use Rattle.vcd_trace.specs.declared.faults.VcdFault.TheVariants as vcds
use Rattle.refusal_lines.specs.Lines.{Line, line, name, number}

-- want of memory is no refusal, and has no line of its own
abbrev pub hex_line : HexFault → Line
hex_line (hexes.NoSuchMemory n) = line (codes "hex 1 NoSuchMemory") (name (codes "name") n ∷ [])
hex_line (hexes.BadRecord at) = line (codes "hex 2 BadRecord") (number (codes "line") at ∷ [])
hex_line (hexes.BadSum at kept expected) = line (codes "hex 3 BadSum") (number (codes "line") at ∷ number (codes "kept") kept ∷ number (codes "expected") expected ∷ [])
hex_line (hexes.RecordType at kind) = line (codes "hex 4 RecordType") (number (codes "line") at ∷ number (codes "kind") kind ∷ [])
hex_line (hexes.AfterEnd at) = line (codes "hex 5 AfterEnd") (number (codes "line") at ∷ [])
hex_line (hexes.PastEnd at address bytes) = line (codes "hex 6 PastEnd") (number (codes "line") at ∷ number (codes "address") address ∷ number (codes "bytes") bytes ∷ [])
hex_line hexes.NoEnd = line (codes "hex 7 NoEnd") []
hex_line (hexes.CellRange index value width) = line (codes "hex 8 CellRange") (number (codes "index") index ∷ number (codes "value") value ∷ number (codes "width") width ∷ [])
hex_line hexes.NoMemory = line [] []

abbrev pub memh_line : MemhFault → Line
memh_line (memhs.NoSuchMemory n) = line (codes "memh 1 NoSuchMemory") (name (codes "name") n ∷ [])
memh_line (memhs.BadWord at) = line (codes "memh 2 BadWord") (number (codes "at") at ∷ [])
memh_line (memhs.CellRange index value width) = line (codes "memh 3 CellRange") (number (codes "index") index ∷ number (codes "value") value ∷ number (codes "width") width ∷ [])
memh_line (memhs.PastEnd index depth) = line (codes "memh 4 PastEnd") (number (codes "index") index ∷ number (codes "depth") depth ∷ [])
memh_line memhs.NoMemory = line [] []

abbrev pub vcd_line : VcdFault → Line
vcd_line (vcds.BadToken at) = line (codes "vcd 1 BadToken") (number (codes "at") at ∷ [])
vcd_line (vcds.UnknownCode at) = line (codes "vcd 2 UnknownCode") (number (codes "at") at ∷ [])
vcd_line (vcds.BadWidth n width) = line (codes "vcd 3 BadWidth") (name (codes "name") n ∷ number (codes "width") width ∷ [])
vcd_line (vcds.NotRising at) = line (codes "vcd 4 NotRising") (number (codes "at") at ∷ [])
vcd_line (vcds.ValueWidth at) = line (codes "vcd 5 ValueWidth") (number (codes "at") at ∷ [])
vcd_line (vcds.NoFirst n) = line (codes "vcd 6 NoFirst") (name (codes "name") n ∷ [])
vcd_line (vcds.TooMany what count limit) = line (codes "vcd 7 TooMany") (name (codes "what") what ∷ number (codes "count") count ∷ number (codes "limit") limit ∷ [])
vcd_line vcds.NoMemory = line [] []
