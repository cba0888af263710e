use Rattle.vcd_trace.proofs.numbers.+binary.Given as goal

abbrev pub decreases-binary : goal.decreases-binary
decreases-binary l = l.value
