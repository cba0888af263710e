use Rattle.std.proofs.Common.{◌+◌, ◌≤◌}
use Rattle.code_lines.proofs.counts.tally_of.Given as goal

abbrev pub invariant-lines : goal.invariant-lines
invariant-lines l = l.tally.found + l.tally.missed ≤ l.line-index
