use Rattle.vcd_trace.specs.Meaning.{blocks}
use Rattle.vcd_trace.specs.VcdFaults.{first_changes, is_unset}
use Rattle.vcd_trace.proofs.FindLaws.{IsSought}
use Rattle.vcd_trace.proofs.firsts.find_unset.Given as goal

abbrev pub invariant-loop-variable : goal.invariant-loop-variable
invariant-loop-variable l = IsSought (is_unset (first_changes (blocks l.events))) l.variables l.variable-index
