-- The statements of a block are those of its vector.
use Rattle.std.proofs.Common.{◌≡◌, List, sym, ap, ◌∙◌}
use Rattle.std.specs.Global.{Vec}
use Rattle.lisa_tree.specs.declared.statements.Stmt.{Stmt}
use Rattle.lisa_tree.specs.declared.statements.Stmt.TheVariants as stmts
use Rattle.lisa_tree.specs.Statements as statements
use Rattle.lisa_tree.specs.Statements.{stmt_tree, stmt_trees}
use Rattle.lisa_tree.proofs.Views.{stmt_tree-Block}

pub block_is : (s : Stmt) (v : Vec Stmt) (xs : List Stmt) → s ≡ stmts.Block v → xs ≡ v.items → stmt_tree s ≡ statements.Block (stmt_trees xs)
block_is s v xs h k = ap stmt_tree h ∙ stmt_tree-Block v ∙ ap (λ (ys : List Stmt). statements.Block (stmt_trees ys)) (sym k)
