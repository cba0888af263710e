use Rattle.std.proofs.Common.{◌≡◌, ◌≤◌, length, ◌+◌, ◌*◌, []}
use Rattle.operator_levels.specs.Stacks.{stack_in}
use Rattle.verilog_places.specs.Trees.{End, placed_trees}
use Rattle.verilog_expression_reader.specs.Past.{placed_toks}
use Rattle.verilog_expression_reader.specs.Gives.{measured_tree}
use Rattle.verilog_expression_reader.specs.Reading.{reads, operands, parts}
use Rattle.verilog_expression_reader.proofs.expressions.+expressions.Given as goal

abbrev pub decreases-parts : goal.decreases-parts
decreases-parts l = 16 * length l.tokens.now + 8

abbrev pub decreases-any : goal.decreases-any
decreases-any l = 16 * length l.tokens.now + 7

abbrev pub decreases-test_and_branches : goal.decreases-test_and_branches
decreases-test_and_branches l = 16 * length l.tokens.now + 6

abbrev pub decreases-branches : goal.decreases-branches
decreases-branches l = 16 * length l.tokens.now + 12

abbrev pub decreases-joined : goal.decreases-joined
decreases-joined l = 16 * length l.tokens.now + 5

abbrev pub decreases-operand : goal.decreases-operand
decreases-operand l = 16 * length l.tokens.now + 4

abbrev pub decreases-prefixed : goal.decreases-prefixed
decreases-prefixed l = 16 * length l.tokens.now + 3

abbrev pub decreases-operated : goal.decreases-operated
decreases-operated l = 16 * length l.tokens.now + 14

abbrev pub decreases-primary : goal.decreases-primary
decreases-primary l = 16 * length l.tokens.now + 2

abbrev pub decreases-leading : goal.decreases-leading
decreases-leading l = 16 * length l.tokens.now + 1

abbrev pub decreases-inside : goal.decreases-inside
decreases-inside l = 16 * length l.tokens.now + 12

abbrev pub decreases-named : goal.decreases-named
decreases-named l = 16 * length l.tokens.now + 14

abbrev pub decreases-index : goal.decreases-index
decreases-index l = 16 * length l.tokens.now + 13

abbrev pub decreases-cell : goal.decreases-cell
decreases-cell l = 16 * length l.tokens.now + 12

abbrev pub decreases-braces : goal.decreases-braces
decreases-braces l = 16 * length l.tokens.now + 13

abbrev pub decreases-repetition : goal.decreases-repetition
decreases-repetition l = 16 * length l.tokens.now + 12

abbrev pub decreases-concatenation : goal.decreases-concatenation
decreases-concatenation l = 16 * length l.tokens.now + 12

abbrev pub invariant-joined-operands : goal.invariant-joined-operands
invariant-joined-operands l = (reads (operands (stack_in measured_tree l.waiting) l.budget (placed_toks l.rest)) ≡ reads (operands [] l.budget (placed_toks l.tokens))) × (length l.rest ≤ length l.tokens)

abbrev pub decreases-joined-operands : goal.decreases-joined-operands
decreases-joined-operands l = length l.rest

abbrev pub invariant-parts-parts : goal.invariant-parts-parts
invariant-parts-parts l = (reads (parts (placed_trees l.all.parts.items) l.budget (placed_toks l.rest)) ≡ reads (parts End l.budget (placed_toks l.tokens))) × (l.all.depth ≤ l.budget) × (length l.rest ≤ length l.tokens)

abbrev pub decreases-parts-parts : goal.decreases-parts-parts
decreases-parts-parts l = length l.rest
