use Rattle.std.proofs.Common.{◌≡◌, List, refl, sym, ap, ◌∙◌}
use Rattle.verilog_text.specs.Trees as plain
use Rattle.verilog_text.specs.Trees.{vexpr_trees}
use Rattle.verilog_text.proofs.Views.{vexpr_tree-Join}
use Rattle.verilog_places.specs.declared.expressions.PlacedExpr.{PlacedExpr}
use Rattle.verilog_places.specs.Trees.{placed_tree, placed_trees, bare, bare_parts}
use Rattle.verilog_places.proofs.RowViews.{placed_tree-Join}
use Rattle.verilog_places.proofs.ListSteps.{matches_whole, yields_whole}
use Rattle.verilog_places.proofs.stripping.+stripped.Goals as goal

pub expression-returns-in_ok-parts-in-Join : goal.expression-returns-in_ok-parts-in-Join
expression-returns-in_ok-parts-in-Join t c =
    vexpr_tree-Join c.in_ok-parts-in-Join.parts ∙ ap plain.Join c.in_ok-parts-in-Join.ensures
    ∙ sym (ap bare (ap placed_tree c.in-Join.is ∙ placed_tree-Join c.in-Join.field-0 c.in-Join.parts))

pub expressions-returns : goal.expressions-returns
expressions-returns t c =
    let made = c.into_iter-part-iterator in
    let whole : c.each.yielded ≡ c.args.parts.items =
    yields_whole made.result c.each.part-iterator c.next.new.self c.args.parts.items c.each.yielded c.next.result made.ensures.into_iter_gives.0 (made.ensures.into_iter_gives.1 ∙ c.args.parts.ok.0) c.each.yielded_by c.in-None.is
    c.next.ensures.steps in
    matches_whole vexpr_trees (λ (ys : List PlacedExpr). bare_parts (placed_trees ys)) c.each.all.items c.each.yielded refl c.each.invariant ∙ ap (λ (ys : List PlacedExpr). bare_parts (placed_trees ys)) whole
