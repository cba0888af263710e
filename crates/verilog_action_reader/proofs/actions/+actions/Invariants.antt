use Rattle.std.proofs.Common.{◌≡◌, ◌≤◌, length, ◌+◌, ◌*◌}
use Rattle.verilog_places.specs.Trees.{placed_actions}
use Rattle.verilog_expression_reader.specs.Past.{placed_toks}
use Rattle.verilog_action_reader.specs.Reading.{actions, within, rest_of}
use Rattle.verilog_action_reader.specs.Gives.{with_front}
use Rattle.verilog_action_reader.proofs.actions.+actions.Given as goal

abbrev pub decreases-action : goal.decreases-action
decreases-action l = 8 * length l.tokens.now + 4

abbrev pub decreases-by_front : goal.decreases-by_front
decreases-by_front l = 8 * length l.tokens.now + 3

abbrev pub decreases-alone : goal.decreases-alone
decreases-alone l = 8 * length l.tokens.now + 2

abbrev pub decreases-single : goal.decreases-single
decreases-single l = 8 * length l.tokens.now + 1

abbrev pub decreases-choice : goal.decreases-choice
decreases-choice l = 8 * length l.tokens.now + 6

abbrev pub decreases-otherwise : goal.decreases-otherwise
decreases-otherwise l = 8 * length l.tokens.now + 6

abbrev pub decreases-block : goal.decreases-block
decreases-block l = 8 * length l.tokens.now + 6

abbrev pub invariant-block-each : goal.invariant-block-each
invariant-block-each l = (with_front (placed_actions l.all.items) (rest_of actions l.budget (l.blocks, placed_toks l.rest)) ≡ actions (within 1 l.budget (placed_toks l.tokens))) × (length l.rest ≤ length l.tokens) × (l.blocks + length l.rest ≤ 1 + length l.tokens)

abbrev pub decreases-block-each : goal.decreases-block-each
decreases-block-each l = length l.rest
