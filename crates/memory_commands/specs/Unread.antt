-- The ends of commands whose file wasn't read.
use Rattle.hex_files.specs.declared.faults.HexFault.{HexFault}
use Rattle.hex_files.specs.declared.faults.HexFault.TheVariants as hex
use Rattle.hex_files.specs.declared.faults.MemhFault.{MemhFault}
use Rattle.hex_files.specs.declared.faults.MemhFault.TheVariants as memh
use Rattle.lisa_outcomes.specs.declared.status.End.{End}
use Rattle.lisa_outcomes.specs.declared.status.End.TheVariants as ends
use Rattle.lisa_outcomes.specs.declared.status.Refusal.TheVariants as refusals

abbrev pub unread_hex : HexFault → End
unread_hex hex.NoMemory = ends.NoMemory
unread_hex fault = ends.Refused (refusals.Hex fault)

abbrev pub unread_memh : MemhFault → End
unread_memh memh.NoMemory = ends.NoMemory
unread_memh fault = ends.Refused (refusals.Memh fault)
