use Rattle.std.proofs.Common.{◌≡◌, ◌+◌, ◌≤◌, length}
use Rattle.verilog_expression_reader.specs.Past.{placed_toks}
use Rattle.verilog_action_reader.specs.Reading.{grouped}
use Rattle.verilog_action_reader.proofs.actions.grouped.Given as goal

abbrev pub invariant-each : goal.invariant-each
invariant-each l = (grouped l.left (placed_toks l.rest) ≡ grouped l.blocks (placed_toks l.tokens)) × (length l.rest ≤ length l.tokens) × (l.left + length l.rest ≤ l.blocks + length l.tokens)

abbrev pub decreases-each : goal.decreases-each
decreases-each l = length l.rest
