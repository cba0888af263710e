-- Behind a first one the rest has to be such alone.
use Rattle.std.proofs.Common.{◌≡◌, drop, cond}
use Rattle.lisa_tree.specs.Statements.{stmt_trees}
use Rattle.stage_checks.specs.Closing.{only_close, ends_well}
use Rattle.stage_checks.proofs.closing.ends_well.Given as goal

abbrev pub invariant-loop-statement : goal.invariant-loop-statement
invariant-loop-statement l =
    cond l.closing (only_close (stmt_trees (drop l.statement-index l.all))) (ends_well (stmt_trees (drop l.statement-index l.all))) ≡ ends_well (stmt_trees l.all)
