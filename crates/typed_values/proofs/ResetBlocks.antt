-- The statements and nodes of a block are those of its vector.
use Rattle.std.proofs.Common.{◌≡◌, ◌+◌, List, sym, ap, ◌∙◌}
use Rattle.std.specs.Global.{Vec}
use Rattle.lisa_tree.specs.declared.statements.Stmt.{Stmt}
use Rattle.lisa_tree.specs.declared.statements.Stmt.TheVariants as stmts
use Rattle.lisa_tree.specs.Statements.{stmt_tree, stmt_trees}
use Rattle.lisa_tree.proofs.Views.{stmt_tree-Block}
use Rattle.typed_values.specs.Counts.{statement_count, statements_count, statement_nodes, statements_nodes}

pub statement_count-Block : (s : Stmt) (v : Vec Stmt) (xs : List Stmt) → s ≡ stmts.Block v → xs ≡ v.items → statement_count (stmt_tree s) ≡ 1 + statements_count (stmt_trees xs)
statement_count-Block s v xs h k =
    ap (λ (s : Stmt). statement_count (stmt_tree s)) h ∙ ap statement_count (stmt_tree-Block v) ∙ sym (ap (λ (xs : List Stmt). 1 + statements_count (stmt_trees xs)) k)

pub statement_nodes-Block : (s : Stmt) (v : Vec Stmt) (xs : List Stmt) → s ≡ stmts.Block v → xs ≡ v.items → statement_nodes (stmt_tree s) ≡ 1 + statements_nodes (stmt_trees xs)
statement_nodes-Block s v xs h k =
    ap (λ (s : Stmt). statement_nodes (stmt_tree s)) h ∙ ap statement_nodes (stmt_tree-Block v) ∙ sym (ap (λ (xs : List Stmt). 1 + statements_nodes (stmt_trees xs)) k)
