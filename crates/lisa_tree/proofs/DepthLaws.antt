-- The depths of what holds a vector.
use Rattle.std.proofs.Common.{◌≡◌, suc, max, List, Option, Some, None, sym, ap, ◌∙◌}
use Rattle.std.specs.Global.{Vec}
use Rattle.lisa_tree.specs.declared.expressions.Expr.{Expr}
use Rattle.lisa_tree.specs.declared.statements.Stmt.{Stmt}
use Rattle.lisa_tree.specs.declared.statements.Stmt.TheVariants as stmts
use Rattle.lisa_tree.specs.declared.descriptions.Act.{Act}
use Rattle.lisa_tree.specs.declared.descriptions.Act.TheVariants as acts
use Rattle.lisa_tree.specs.Expressions.{expr_tree, expr_depth}
use Rattle.lisa_tree.specs.Statements.{stmt_tree, stmt_trees, stmt_depth, stmts_depth}
use Rattle.lisa_tree.specs.Activations.{act_tree, act_trees, act_depth, acts_depth}
use Rattle.lisa_tree.proofs.Views.{stmt_tree-Block, act_tree-Choose, act_tree-ChooseElse}

pub stmt_depth-Block : (s : Stmt) (v : Vec Stmt) (xs : List Stmt) → s ≡ stmts.Block v → xs ≡ v.items
    → stmt_depth (stmt_tree s) ≡ suc (stmts_depth (stmt_trees xs))
stmt_depth-Block s v xs h k =
    ap (λ (s : Stmt). stmt_depth (stmt_tree s)) h ∙ ap stmt_depth (stmt_tree-Block v) ∙ sym (ap (λ (xs : List Stmt). suc (stmts_depth (stmt_trees xs))) k)

pub act_depth-Choose : (a : Act) (e : Expr) (v : Vec Act) (other : Option (Vec Act)) (xs : List Act) → a ≡ acts.Choose e v other → other ≡ None → xs ≡ v.items
    → act_depth (act_tree a) ≡ suc (max (expr_depth (expr_tree e)) (acts_depth (act_trees xs)))
act_depth-Choose a e v other xs h o k =
    ap (λ (a : Act). act_depth (act_tree a)) (h ∙ ap (acts.Choose e v) o) ∙ ap act_depth (act_tree-Choose e v)
    ∙ sym (ap (λ (xs : List Act). suc (max (expr_depth (expr_tree e)) (acts_depth (act_trees xs)))) k)

pub act_depth-ChooseElse : (a : Act) (e : Expr) (v w : Vec Act) (other : Option (Vec Act)) (xs ys : List Act)
    → a ≡ acts.Choose e v other → other ≡ Some w → xs ≡ v.items → ys ≡ w.items
    → act_depth (act_tree a) ≡ suc (max (expr_depth (expr_tree e)) (max (acts_depth (act_trees xs)) (acts_depth (act_trees ys))))
act_depth-ChooseElse a e v w other xs ys h o k l =
    ap (λ (a : Act). act_depth (act_tree a)) (h ∙ ap (acts.Choose e v) o) ∙ ap act_depth (act_tree-ChooseElse e v w)
    ∙ sym (ap (λ (xs : List Act). suc (max (expr_depth (expr_tree e)) (max (acts_depth (act_trees xs)) (acts_depth (act_trees w.items))))) k)
    ∙ sym (ap (λ (ys : List Act). suc (max (expr_depth (expr_tree e)) (max (acts_depth (act_trees xs)) (acts_depth (act_trees ys))))) l)
