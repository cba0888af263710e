-- The parts of a concatenation are seen as those of its vector.
use Rattle.std.proofs.Common.{◌≡◌, refl, ap, ◌∙◌}
use Rattle.std.specs.Global.{Vec}
use mathlib.Core.Former.{Count}
use Rattle.verilog_places.specs.declared.expressions.PlacedExpr.{PlacedExpr, Join', Row_of-PlacedExpr, end_of-PlacedExpr, more_of-PlacedExpr, items-the_row-PlacedExpr, items_hidden-the_row-PlacedExpr-0}
use Rattle.verilog_places.specs.declared.expressions.PlacedExpr.TheVariants as exprs
use Rattle.verilog_places.specs.Trees as trees
use Rattle.verilog_places.specs.Trees.{placed_tree, placed_trees, row_placed}

abbrev join_row : PlacedExpr → (n : Count) × Row_of-PlacedExpr n
join_row (Join' _ _ row) = (_, row)
join_row _ = (_, end_of-PlacedExpr)

expr_row : (n : Count) (row : Row_of-PlacedExpr n) → row_placed row ≡ placed_trees (items-the_row-PlacedExpr n row)
expr_row n end_of-PlacedExpr = refl
expr_row n (more_of-PlacedExpr e rest) = ap (trees.Then (placed_tree e)) (expr_row _ rest)

pub placed_tree-Join : (at : _) (v : Vec PlacedExpr) → placed_tree (exprs.Join at v) ≡ trees.Join at (placed_trees v.items)
placed_tree-Join at v =
    let row = join_row (exprs.Join at v) in
    ap (trees.Join at) (expr_row row.0 row.1 ∙ ap placed_trees (items_hidden-the_row-PlacedExpr-0 v))
