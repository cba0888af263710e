use Rattle.std.proofs.Common.{ℕ, List, Option, ◌+◌, drop, sym, ap, ◌∙◌}
use Rattle.verilog_text.specs.Values.{v_width, parts_width}
use Rattle.verilog_text.specs.WidePlaces.{◌or_else◌}
use Rattle.verilog_places.specs.declared.expressions.PlacedExpr.{PlacedExpr}
use Rattle.verilog_places.specs.Trees.{PlacedTree, PlacedTrees, placed_tree, placed_trees, bare, bare_parts}
use Rattle.verilog_places.specs.WidePlaces.{wide_inside, wide_expr, wide_parts}
use Rattle.verilog_places.proofs.PlaceLaws.{or_assoc}
use Rattle.verilog_size_checks.specs.Scopes.{widths_in}
use Rattle.verilog_size_checks.specs.Sought.{capped}
use Rattle.verilog_size_checks.proofs.LengthLaws.{capped_small, capped_more, capped_end}
use Rattle.verilog_size_checks.proofs.ActionLaws.{join_is, parts_here, drop_end}
use Rattle.verilog_size_checks.proofs.measures.+measures.Goals as goal

pub inside-returns-in-Join-clause-width : goal.inside-returns-in-Join-clause-width
inside-returns-in-Join-clause-width t c = c.measure_parts.ensures.width ∙ sym (ap (λ (e : PlacedTree). capped (v_width (widths_in c.args.scope.now) (bare e))) (join_is _ _ _ _ c.in-Join.is c.deref-in-Join.ensures.value))

pub inside-returns-in-Join-clause-wide : goal.inside-returns-in-Join-clause-wide
inside-returns-in-Join-clause-wide t c = c.measure_parts.ensures.wide ∙ sym (ap (wide_inside (widths_in c.args.scope.now)) (join_is _ _ _ _ c.in-Join.is c.deref-in-Join.ensures.value))

pub measure_parts-each-preserved : goal.measure_parts-each-preserved
measure_parts-each-preserved t c =
    let w = widths_in c.args.scope.now in
    let tree = placed_tree c.part-item.result in
    let here = v_width w (bare tree) in
    let behind = placed_trees (drop (c.each.part-index + 1) c.args.parts.now) in
    let one_more = parts_here c.args.parts.now c.each.part-index c.part-item.result c.each-test.true c.part-item.is in
    let grown = c.together.ensures c.each.all.width here (capped_small c.each.all.width c.each.invariant.small) c.measure-part.ensures.width in
    record {
      small = c.together.type_inv;
      width = capped_more c.together.result c.each.all.width here (parts_width w (bare_parts behind)) grown
          ∙ sym (ap (λ (ts : PlacedTrees). capped (c.each.all.width + parts_width w (bare_parts ts))) one_more) ∙ c.each.invariant.width;
      wide = ap (λ (o : Option ℕ). o or_else wide_parts w behind) (c.first.ensures ∙ ap (λ (o : Option ℕ). c.each.all.wide or_else o) c.measure-part.ensures.wide)
          ∙ or_assoc c.each.all.wide (wide_expr w tree) (wide_parts w behind)
          ∙ sym (ap (λ (ts : PlacedTrees). c.each.all.wide or_else wide_parts w ts) one_more) ∙ c.each.invariant.wide;
    }

pub measure_parts-returns-clause-width : goal.measure_parts-returns-clause-width
measure_parts-returns-clause-width t c =
    let w = widths_in c.args.scope.now in
    let all = parts_width w (bare_parts (placed_trees c.args.parts.now)) in
    capped_end c.each.all.width all c.each.invariant.small
    (sym (ap (λ (xs : List PlacedExpr). capped (c.each.all.width + parts_width w (bare_parts (placed_trees xs)))) (drop_end c.args.parts.now c.each.part-index c.each-test.false)) ∙ c.each.invariant.width)
