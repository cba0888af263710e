use Rattle.std.proofs.Common.{◌≡◌, ◌++◌, List, map, sym, ap, subst, ◌∙◌, arith}
use Rattle.std.specs.Prelude.{OnOk}
use Rattle.verilog_text.specs.declared.expressions.VExpr.{VExpr}
use Rattle.verilog_text.specs.Trees.{VTree, Join, vexpr_tree, vexpr_trees}
use Rattle.verilog_text.specs.Pieces.{piece_tok}
use Rattle.verilog_text.specs.Printing.{bare, expr_size}
use Rattle.verilog_text.proofs.Views.{vexpr_tree-Join}
use Rattle.verilog_text.proofs.PutLaws.{part_below}
use Rattle.verilog_text.proofs.printer.+shown.Goals as goal

pub put_bare-returns-in-Join : goal.put_bare-returns-in-Join
put_bare-returns-in-Join t c =
    let shape : vexpr_tree c.args.e.now ≡ Join (vexpr_trees c.deref-in-Join.result.now) =
    ap vexpr_tree c.in-Join.is ∙ vexpr_tree-Join c.in-Join.parts ∙ ap (λ (xs : List VExpr). Join (vexpr_trees xs)) (sym c.deref-in-Join.ensures.value) in
    subst (λ (e : VTree). OnOk c.put_join.result (map piece_tok c.put_join.new.out.items ≡ map piece_tok c.args.out.now.items ++ bare e)) (sym shape) c.put_join.ensures

pub put_bare-put_join-requires : goal.put_bare-put_join-requires
put_bare-put_join-requires t c =
    let shape : vexpr_tree c.args.e.now ≡ Join (vexpr_trees c.deref-in-Join.result.now) =
    ap vexpr_tree c.in-Join.is ∙ vexpr_tree-Join c.in-Join.parts ∙ ap (λ (xs : List VExpr). Join (vexpr_trees xs)) (sym c.deref-in-Join.ensures.value) in
    (omega (arith, ap expr_size shape), tt)

pub put_more-put_one_more-requires : goal.put_more-put_one_more-requires
put_more-put_one_more-requires t c =
    let below = part_below c.args.parts.now c.each.part-index c.part-item.result c.each-test.true in
    (omega (arith, below, ap (λ (e : VExpr). expr_size (vexpr_tree e)) c.part-item.is), tt)
