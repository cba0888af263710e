use Rattle.std.proofs.Common.{List, ℕ, Option, ◌+◌, drop, sym, ap, subst, ◌∙◌}
use Rattle.std.specs.Option.{option_or}
use Rattle.verilog_text.specs.Conditions.{expr_indexes, parts_indexes}
use Rattle.verilog_places.specs.Trees.{PlacedTree, placed_tree, placed_trees, bare, bare_parts}
use Rattle.verilog_size_checks.specs.Scopes.{module_in}
use Rattle.verilog_size_checks.specs.Sought.{first_of, index_fault, TellsIndex}
use Rattle.verilog_size_checks.proofs.ActionLaws.{join_is, parts_at}
use Rattle.verilog_size_checks.proofs.TellingLaws.{index_front, passed}
use Rattle.verilog_size_checks.proofs.indexes.+indexes.Goals as goal

pub check_expr-returns-in_err-check_parts-in-Join-clause-wrong : goal.check_expr-returns-in_err-check_parts-in-Join-clause-wrong
check_expr-returns-in_err-check_parts-in-Join-clause-wrong t c =
    let e = ap (λ (tree : PlacedTree). first_of (index_fault (module_in c.args.scope.now)) (expr_indexes (bare tree))) (join_is _ _ _ _ c.in-Join.is c.deref-in-Join.ensures.value) in
    passed _ _ _ c.from_residual-in_err-check_parts-in-Join.ensures
    (subst (λ (o : Option (List ℕ × ℕ × ℕ)). TellsIndex o c.in_err-check_parts-in-Join.field-0.0) (sym e) c.in_err-check_parts-in-Join.ensures.wrong)

pub check_expr-returns-in_ok-check_parts-in-Join-clause-right : goal.check_expr-returns-in_ok-check_parts-in-Join-clause-right
check_expr-returns-in_ok-check_parts-in-Join-clause-right t c =
    ap (λ (tree : PlacedTree). first_of (index_fault (module_in c.args.scope.now)) (expr_indexes (bare tree))) (join_is _ _ _ _ c.in-Join.is c.deref-in-Join.ensures.value)
    ∙ c.in_ok-check_parts-in-Join.ensures.right

pub check_parts-returns-in_err-check_expr-clause-wrong : goal.check_parts-returns-in_err-check_expr-clause-wrong
check_parts-returns-in_err-check_expr-clause-wrong t c =
    let find = index_fault (module_in c.args.scope.now) in
    let here = expr_indexes (bare (placed_tree c.part-item.result)) in
    let rest = parts_indexes (bare_parts (placed_trees (drop (c.each.part-index + 1) c.args.parts.now))) in
    let e = parts_at find c.args.parts.now c.each.part-index c.part-item.result c.each-test.true c.part-item.is in
    passed _ _ _ c.from_residual.ensures
    (subst (λ (o : Option (List ℕ × ℕ × ℕ)). TellsIndex o c.in_err-check_expr.field-0.0) (sym e ∙ c.each.invariant) (index_front (first_of find here) (first_of find rest) _ c.in_err-check_expr.ensures.wrong))

pub check_parts-each-preserved : goal.check_parts-each-preserved
check_parts-each-preserved t c =
    let find = index_fault (module_in c.args.scope.now) in
    let rest = parts_indexes (bare_parts (placed_trees (drop (c.each.part-index + 1) c.args.parts.now))) in
    let e = parts_at find c.args.parts.now c.each.part-index c.part-item.result c.each-test.true c.part-item.is in
    ap (λ (o : Option (List ℕ × ℕ × ℕ)). option_or o (first_of find rest)) (sym c.in_ok-check_expr.ensures.right) ∙ sym e ∙ c.each.invariant
