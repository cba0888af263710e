use Rattle.vcd_trace.specs.VcdFaults.{is_misfit}
use Rattle.vcd_trace.proofs.FindLaws.{IsSought}
use Rattle.vcd_trace.proofs.checks.find_misfit.Given as goal

abbrev pub invariant-loop-variable : goal.invariant-loop-variable
invariant-loop-variable l = IsSought (is_misfit l.codes.variables.now) l.codes.variables.now l.variable-index
