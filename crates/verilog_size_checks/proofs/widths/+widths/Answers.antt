use Rattle.std.proofs.Common.{List, ◌+◌, drop, sym, ap, ◌∙◌}
use Rattle.verilog_text.specs.Values.{v_width, parts_width}
use Rattle.verilog_places.specs.declared.expressions.PlacedExpr.{PlacedExpr}
use Rattle.verilog_places.specs.Trees.{PlacedTree, PlacedTrees, placed_tree, placed_trees, bare, bare_parts}
use Rattle.verilog_size_checks.specs.Scopes.{widths_in}
use Rattle.verilog_size_checks.specs.Sought.{capped}
use Rattle.verilog_size_checks.proofs.LengthLaws.{capped_small, capped_more, capped_end}
use Rattle.verilog_size_checks.proofs.ActionLaws.{join_is, parts_here, drop_end}
use Rattle.verilog_size_checks.proofs.widths.+widths.Goals as goal

pub own_width-returns-in-Join : goal.own_width-returns-in-Join
own_width-returns-in-Join t c = c.parts_width.ensures ∙ sym (ap (λ (e : PlacedTree). capped (v_width (widths_in c.args.scope.now) (bare e))) (join_is _ _ _ _ c.in-Join.is c.deref-in-Join.ensures.value))

pub parts_width-each-preserved : goal.parts_width-each-preserved
parts_width-each-preserved t c =
    let w = widths_in c.args.scope.now in
    let here = v_width w (bare (placed_tree c.part-item.result)) in
    let rest = parts_width w (bare_parts (placed_trees (drop (c.each.part-index + 1) c.args.parts.now))) in
    let grown = c.together-width.ensures c.each.width here (capped_small c.each.width c.each.invariant.small) c.own_width.ensures in
    record {
      small = c.together-width.type_inv;
      sum = capped_more c.together-width.result c.each.width here rest grown
          ∙ sym (ap (λ (ts : PlacedTrees). capped (c.each.width + parts_width w (bare_parts ts))) (parts_here c.args.parts.now c.each.part-index c.part-item.result c.each-test.true c.part-item.is))
          ∙ c.each.invariant.sum;
    }

pub parts_width-returns : goal.parts_width-returns
parts_width-returns t c =
    let w = widths_in c.args.scope.now in
    let all = parts_width w (bare_parts (placed_trees c.args.parts.now)) in
    capped_end c.each.width all c.each.invariant.small
    (sym (ap (λ (xs : List PlacedExpr). capped (c.each.width + parts_width w (bare_parts (placed_trees xs)))) (drop_end c.args.parts.now c.each.part-index c.each-test.false)) ∙ c.each.invariant.sum)
