-- The statements of a block are those of its vector.
use Rattle.std.proofs.Common.{◌≡◌, List, length, sym, ap, ◌∙◌}
use Rattle.std.specs.Global.{Vec}
use Rattle.lisa_tree.specs.declared.statements.Stmt.{Stmt}
use Rattle.lisa_tree.specs.declared.statements.Stmt.TheVariants as stmts
use Rattle.lisa_tree.specs.Statements.{StmtTree, stmt_tree, stmt_trees}
use Rattle.lisa_tree.proofs.Views.{stmt_tree-Block}
use Rattle.typed_values.specs.Effects.{Doing, effect, effects, leave}

pub effect-Block : {M : Type 0} (doing : Doing M) (m : M) (s : Stmt) (v : Vec Stmt) (xs : List Stmt) → s ≡ stmts.Block v → xs ≡ v.items → effect doing (stmt_tree s) m ≡ leave doing (length (doing.locals m)) (effects doing (stmt_trees xs) m)
effect-Block doing m s v xs h k =
    ap (λ (s : Stmt). effect doing (stmt_tree s) m) h ∙ ap (λ (t : StmtTree). effect doing t m) (stmt_tree-Block v) ∙ sym (ap (λ (xs : List Stmt). leave doing (length (doing.locals m)) (effects doing (stmt_trees xs) m)) k)
