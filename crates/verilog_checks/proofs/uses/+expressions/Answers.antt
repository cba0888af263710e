use Rattle.std.proofs.Common.{◌≡◌, ◌++◌, List, map, sym, ap, subst, ◌∙◌, arith}
use Rattle.std.specs.Prelude.{OnOk}
use Rattle.verilog_text.specs.Printing.{expr_size}
use Rattle.verilog_text.specs.Conditions.{expr_uses}
use Rattle.verilog_places.specs.declared.expressions.PlacedExpr.{PlacedExpr}
use Rattle.verilog_places.specs.Trees.{PlacedTree, Join, placed_tree, placed_trees, bare}
use Rattle.verilog_checks.specs.Views.{counted_use, behind}
use Rattle.verilog_checks.proofs.Views.{placed_tree-Join}
use Rattle.verilog_checks.proofs.UseLaws.{part_below}
use Rattle.verilog_checks.proofs.uses.+expressions.Goals as goal

pub put_expr-returns-in-Join : goal.put_expr-returns-in-Join
put_expr-returns-in-Join t c =
    let shape : placed_tree c.args.e.now ≡ Join c.in-Join.field-0 (placed_trees c.deref-in-Join.result.now) =
    ap placed_tree c.in-Join.is ∙ placed_tree-Join c.in-Join.field-0 c.in-Join.parts ∙ ap (λ (xs : List PlacedExpr). Join c.in-Join.field-0 (placed_trees xs)) (sym c.deref-in-Join.ensures.value) in
    subst (λ (e : PlacedTree). OnOk c.put_parts.result (map counted_use c.put_parts.new.out.items ≡ map counted_use c.args.out.now.items ++ behind c.args.before (expr_uses (bare e)))) (sym shape) c.put_parts.ensures

pub put_expr-put_parts-requires : goal.put_expr-put_parts-requires
put_expr-put_parts-requires t c =
    let shape : placed_tree c.args.e.now ≡ Join c.in-Join.field-0 (placed_trees c.deref-in-Join.result.now) =
    ap placed_tree c.in-Join.is ∙ placed_tree-Join c.in-Join.field-0 c.in-Join.parts ∙ ap (λ (xs : List PlacedExpr). Join c.in-Join.field-0 (placed_trees xs)) (sym c.deref-in-Join.ensures.value) in
    (omega (arith, ap (λ (e : PlacedTree). expr_size (bare e)) shape), tt)

pub put_parts-put_expr-requires : goal.put_parts-put_expr-requires
put_parts-put_expr-requires t c =
    let below = part_below c.args.parts.now c.each.part-index c.part-item.result c.each-test.true in
    (omega (arith, below, ap (λ (e : PlacedExpr). expr_size (bare (placed_tree e))) c.part-item.is), tt)
