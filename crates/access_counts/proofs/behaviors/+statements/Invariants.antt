-- With the statements that are left all are noted.
use Rattle.std.proofs.Common.{drop}
use Rattle.lisa_tree.specs.Statements.{stmt_trees}
use Rattle.access_counts.specs.Accesses.{statements_accesses}
use Rattle.access_counts.specs.Ledgers.{IsGoing}
use Rattle.access_counts.proofs.behaviors.+statements.Given as goal

abbrev pub invariant-note_behavior-loop-statement : goal.invariant-note_behavior-loop-statement
invariant-note_behavior-loop-statement g l =
    IsGoing (g.N.Names.tree l.names) l.operation l.fn.ledger l.ledger l.times
    (λ a names. statements_accesses a names (stmt_trees (drop l.statement-index l.all))) (λ a names. statements_accesses a names (stmt_trees l.all))
