-- The lists that stand inside a recursive type are seen as those of their vectors.
use Rattle.std.proofs.Common.{◌≡◌, Some, None, refl, ap, ◌∙◌}
use Rattle.std.specs.Global.{Vec}
use mathlib.Core.Former.{Count}
use Rattle.lisa_tree.specs.declared.expressions.Expr.{Expr}
use Rattle.lisa_tree.specs.declared.statements.Stmt.{Stmt, Block', Row_of-Stmt, end_of-Stmt, more_of-Stmt, items-the_row-Stmt, items_hidden-the_row-Stmt-0}
use Rattle.lisa_tree.specs.declared.statements.Stmt.TheVariants as stmts
use Rattle.lisa_tree.specs.declared.descriptions.Act.{Act, Choose', Row_of-Act, end_of-Act, more_of-Act, items-the_row-Act, items_hidden-the_row-Act-0, Some'}
use Rattle.lisa_tree.specs.declared.descriptions.Act.TheVariants as acts
use Rattle.lisa_tree.specs.Expressions.{expr_tree}
use Rattle.lisa_tree.specs.Statements as statements
use Rattle.lisa_tree.specs.Statements.{StmtTrees, stmt_tree, stmt_trees}
use Rattle.lisa_tree.specs.Activations as activations
use Rattle.lisa_tree.specs.Activations.{ActTrees, act_tree, act_trees}

-- ---- the statements of a block

abbrev block_row : Stmt → (n : Count) × Row_of-Stmt n
block_row (Block' _ row) = (_, row)
block_row _ = (_, end_of-Stmt)

stmt_row : (n : Count) (row : Row_of-Stmt n) → statements.row_trees row ≡ stmt_trees (items-the_row-Stmt n row)
stmt_row n end_of-Stmt = refl
stmt_row n (more_of-Stmt s rest) = ap (statements.Then (stmt_tree s)) (stmt_row _ rest)

pub stmt_tree-Block : (v : Vec Stmt) → stmt_tree (stmts.Block v) ≡ statements.Block (stmt_trees v.items)
stmt_tree-Block v =
    let row = block_row (stmts.Block v) in
    ap statements.Block (stmt_row row.0 row.1 ∙ ap stmt_trees (items_hidden-the_row-Stmt-0 v))

-- ---- the items of a choice

abbrev chosen_row : Act → (n : Count) × Row_of-Act n
chosen_row (Choose' test _ row held) = (_, row)
chosen_row _ = (_, end_of-Act)

abbrev other_row : Act → (n : Count) × Row_of-Act n
other_row (Choose' test _ row (Some' _ others)) = (_, others)
other_row _ = (_, end_of-Act)

act_row : (n : Count) (row : Row_of-Act n) → activations.row_trees row ≡ act_trees (items-the_row-Act n row)
act_row n end_of-Act = refl
act_row n (more_of-Act a rest) = ap (activations.Then (act_tree a)) (act_row _ rest)

pub act_tree-Choose : (e : Expr) (v : Vec Act) → act_tree (acts.Choose e v None) ≡ activations.Choose (expr_tree e) (act_trees v.items)
act_tree-Choose e v =
    let row = chosen_row (acts.Choose e v None) in
    ap (activations.Choose (expr_tree e)) (act_row row.0 row.1 ∙ ap act_trees (items_hidden-the_row-Act-0 v))

pub act_tree-ChooseElse : (e : Expr) (v w : Vec Act) → act_tree (acts.Choose e v (Some w)) ≡ activations.ChooseElse (expr_tree e) (act_trees v.items) (act_trees w.items)
act_tree-ChooseElse e v w =
    let row = chosen_row (acts.Choose e v (Some w)) in
    let others = other_row (acts.Choose e v (Some w)) in
    ap (λ (xs : ActTrees). activations.ChooseElse (expr_tree e) xs (activations.row_trees others.1)) (act_row row.0 row.1 ∙ ap act_trees (items_hidden-the_row-Act-0 v))
    ∙ ap (activations.ChooseElse (expr_tree e) (act_trees v.items)) (act_row others.0 others.1 ∙ ap act_trees (items_hidden-the_row-Act-0 w))
