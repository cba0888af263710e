-- The statements of a block are those of its vector.
use Rattle.std.proofs.Common.{◌≡◌, ℕ, List, sym, ap, ◌∙◌}
use Rattle.std.specs.Global.{Vec}
use Rattle.lisa_tree.specs.declared.statements.Stmt.{Stmt}
use Rattle.lisa_tree.specs.declared.statements.Stmt.TheVariants as stmts
use Rattle.lisa_tree.specs.Statements as trees
use Rattle.lisa_tree.specs.Statements.{StmtTree, stmt_tree, stmt_trees}
use Rattle.lisa_tree.proofs.Views.{stmt_tree-Block}
use Rattle.step_program.specs.Programs.{Expr}
use Rattle.lowered_statements.specs.Scopes.{Scope}
use Rattle.lowered_statements.specs.Ways.{Ways}
use Rattle.lowered_statements.specs.Stated.{within, stated, stated_all}

pub block_is : (s : Stmt) (v : Vec Stmt) (xs : List Stmt) → s ≡ stmts.Block v → xs ≡ v.items → stmt_tree s ≡ trees.Block (stmt_trees xs)
block_is s v xs h k = ap stmt_tree h ∙ stmt_tree-Block v ∙ ap (λ (ys : List Stmt). trees.Block (stmt_trees ys)) (sym k)

pub stated_block : (ways : Ways) (scope : Scope) (guard : Expr) (from : ℕ) (s : Stmt) (v : Vec Stmt) (xs : List Stmt) → s ≡ stmts.Block v → xs ≡ v.items
    → stated ways scope guard from (stmt_tree s) ≡ within scope (stated_all ways scope guard from (stmt_trees xs)).piece
stated_block ways scope guard from s v xs h k =
    ap (λ (t : StmtTree). stated ways scope guard from t) (block_is s v xs h k)
