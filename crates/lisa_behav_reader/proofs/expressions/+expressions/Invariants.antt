use Rattle.std.proofs.Common.{◌≡◌, ◌≤◌, length, ◌+◌, ◌*◌, []}
use Rattle.lisa_tree.specs.Tokens.{toks}
use Rattle.operator_levels.specs.Stacks.{stack_in}
use Rattle.lisa_behav_reader.specs.Gives.{measured_tree}
use Rattle.lisa_behav_reader.specs.Reading.{reads, operands}
use Rattle.lisa_behav_reader.proofs.expressions.+expressions.Given as goal

abbrev pub decreases-expression : goal.decreases-expression
decreases-expression l = 16 * length l.tokens.now + 5

abbrev pub decreases-test_and_branches : goal.decreases-test_and_branches
decreases-test_and_branches l = 16 * length l.tokens.now + 4

abbrev pub decreases-branches : goal.decreases-branches
decreases-branches l = 16 * length l.tokens.now + 8

abbrev pub decreases-joined : goal.decreases-joined
decreases-joined l = 16 * length l.tokens.now + 3

abbrev pub decreases-operand : goal.decreases-operand
decreases-operand l = 16 * length l.tokens.now + 2

abbrev pub decreases-prefixed : goal.decreases-prefixed
decreases-prefixed l = 16 * length l.tokens.now + 1

abbrev pub decreases-primary : goal.decreases-primary
decreases-primary l = 16 * length l.tokens.now

abbrev pub decreases-inside : goal.decreases-inside
decreases-inside l = 16 * length l.tokens.now + 8

abbrev pub decreases-named : goal.decreases-named
decreases-named l = 16 * length l.tokens.now + 8

abbrev pub invariant-joined-operands : goal.invariant-joined-operands
invariant-joined-operands l = (reads (operands (stack_in measured_tree l.waiting) l.budget (toks l.rest)) ≡ reads (operands [] l.budget (toks l.tokens))) × (length l.rest ≤ length l.tokens)

abbrev pub decreases-joined-operands : goal.decreases-joined-operands
decreases-joined-operands l = length l.rest
