use Rattle.std.proofs.Common.{◌≡◌, ◌≤◌, length, ◌+◌, ◌*◌}
use Rattle.lisa_tree.specs.Statements.{stmt_trees}
use Rattle.lisa_tree.specs.Tokens.{toks}
use Rattle.lisa_behav_reader.specs.StmtReading.{stmts, many}
use Rattle.lisa_behav_reader.specs.StmtGives.{with_front}
use Rattle.lisa_behav_reader.proofs.stmts.+statements.Given as goal

abbrev pub decreases-statement : goal.decreases-statement
decreases-statement l = 8 * length l.tokens.now + 3

abbrev pub decreases-by_front : goal.decreases-by_front
decreases-by_front l = 8 * length l.tokens.now + 2

abbrev pub decreases-block : goal.decreases-block
decreases-block l = 8 * length l.tokens.now + 5

abbrev pub decreases-choice : goal.decreases-choice
decreases-choice l = 8 * length l.tokens.now + 5

abbrev pub decreases-otherwise : goal.decreases-otherwise
decreases-otherwise l = 8 * length l.tokens.now + 5

abbrev pub decreases-repeated : goal.decreases-repeated
decreases-repeated l = 8 * length l.tokens.now + 5

abbrev pub decreases-counted : goal.decreases-counted
decreases-counted l = 8 * length l.tokens.now + 5

abbrev pub decreases-statements : goal.decreases-statements
decreases-statements l = 8 * length l.tokens.now + 4

abbrev pub invariant-statements-each : goal.invariant-statements-each
invariant-statements-each l = (with_front (stmt_trees l.all.items) (stmts (many l.budget (toks l.rest))) ≡ stmts (many l.budget (toks l.tokens))) × (length l.rest ≤ length l.tokens)

abbrev pub decreases-statements-each : goal.decreases-statements-each
decreases-statements-each l = length l.rest
