use Rattle.std.proofs.Common.{◌≡◌, drop}
use Rattle.lisa_tree.specs.Statements.{stmt_trees}
use Rattle.lisa_printer.specs.CanonicalTokens.{stmts_tokens}
use Rattle.lisa_printer.specs.Sheets.{write_all}
use Rattle.lisa_printer.proofs.statements.+statements.Given as goal

abbrev pub invariant-put_stmts-loop-s : goal.invariant-put_stmts-loop-s
invariant-put_stmts-loop-s l = write_all l.page (stmts_tokens (stmt_trees (drop l.s-index l.all))) ≡ write_all l.initial.page (stmts_tokens (stmt_trees l.all))
