-- The end of a command whose module wasn't read.
use Rattle.verilog_text.specs.declared.faults.VerilogFault.{VerilogFault}
use Rattle.verilog_text.specs.declared.faults.VerilogFault.TheVariants as faults
use Rattle.lisa_outcomes.specs.declared.status.End.{End}
use Rattle.lisa_outcomes.specs.declared.status.End.TheVariants as ends
use Rattle.lisa_outcomes.specs.declared.status.Refusal.TheVariants as refusals

abbrev pub unread_end : VerilogFault → End
unread_end faults.NoMemory = ends.NoMemory
unread_end fault = ends.Refused (refusals.Verilog fault)
