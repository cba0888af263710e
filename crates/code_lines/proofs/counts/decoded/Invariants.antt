use Rattle.std.proofs.Common.{◌≡◌, ◌+◌}
use Rattle.code_lines.proofs.counts.decoded.Given as goal

abbrev pub invariant-words : goal.invariant-words
invariant-words l = l.tally.found + l.tally.missed ≡ l.number
