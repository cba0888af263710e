-- The tree of a choice is that of its test and of its branches.
use Rattle.std.proofs.Common.{◌≡◌, Option, None, Some, sym, ap, ap₂, ◌∙◌}
use Rattle.std.specs.Global.{Box}
use Rattle.lisa_tree.specs.declared.expressions.Expr.{Expr}
use Rattle.lisa_tree.specs.declared.statements.Stmt.{Stmt}
use Rattle.lisa_tree.specs.declared.statements.Stmt.TheVariants as stmts
use Rattle.lisa_tree.specs.Expressions.{expr_tree}
use Rattle.lisa_tree.specs.Statements as trees
use Rattle.lisa_tree.specs.Statements.{stmt_tree}

pub chosen_is : (s : Stmt) (e : Expr) (a : Box Stmt) (w : Option (Box Stmt)) (body : Stmt) → s ≡ stmts.If e a w → w ≡ None → body ≡ a.value
    → stmt_tree s ≡ trees.If (expr_tree e) (stmt_tree body)
chosen_is s e a w body is lone same =
    ap (λ (z : Stmt). stmt_tree z) (is ∙ ap (λ (z : Option (Box Stmt)). stmts.If e a z) lone)
    ∙ ap (λ (z : Stmt). trees.If (expr_tree e) (stmt_tree z)) (sym same)

pub both_are : (s : Stmt) (e : Expr) (a : Box Stmt) (w : Option (Box Stmt)) (b : Box Stmt) (body other : Stmt) → s ≡ stmts.If e a w → w ≡ Some b → body ≡ a.value → other ≡ b.value
    → stmt_tree s ≡ trees.IfElse (expr_tree e) (stmt_tree body) (stmt_tree other)
both_are s e a w b body other is both same there =
    ap (λ (z : Stmt). stmt_tree z) (is ∙ ap (λ (z : Option (Box Stmt)). stmts.If e a z) both)
    ∙ ap₂ (λ (y z : Stmt). trees.IfElse (expr_tree e) (stmt_tree y) (stmt_tree z)) (sym same) (sym there)
