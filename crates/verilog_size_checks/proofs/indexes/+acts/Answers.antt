use Rattle.std.proofs.Common.{List, ℕ, Option, ◌+◌, drop, refl, sym, ap, subst, ◌∙◌}
use Rattle.std.specs.Option.{option_or}
use Rattle.verilog_text.specs.Conditions.{expr_indexes, action_indexes}
use Rattle.verilog_places.specs.Trees.{placed_tree, bare, action_then, Done, placed_actions, bare_actions}
use Rattle.verilog_size_checks.specs.Scopes.{module_in}
use Rattle.verilog_size_checks.specs.Sought.{first_of, index_fault, TellsIndex}
use Rattle.verilog_size_checks.proofs.ActionLaws.{first_if, indexes_at}
use Rattle.verilog_size_checks.proofs.TellingLaws.{index_front, index_back, passed}
use Rattle.verilog_size_checks.proofs.indexes.+acts.Goals as goal

pub check_action-returns-in_err-check_actions-in-If-clause-wrong : goal.check_action-returns-in_err-check_actions-in-If-clause-wrong
check_action-returns-in_err-check_actions-in-If-clause-wrong t c =
    let find = index_fault (module_in c.args.scope.now) in
    let test = expr_indexes (bare (placed_tree c.in-If.test)) in
    let this = action_indexes (bare_actions (placed_actions c.deref.result.now)) in
    let other = action_indexes (bare_actions (placed_actions c.in-If.other.items)) in
    let e = first_if find c.in-If.test _ _ _ _ c.in-If.other.items c.in-If.is c.deref.ensures.value refl in
    passed _ _ _ c.from_residual-in_err-check_actions-in-If.ensures
    (subst (λ (o : Option (List ℕ × ℕ × ℕ)). TellsIndex o c.in_err-check_actions-in-If.field-0.0) (sym e)
    (index_back (first_of find test) (option_or (first_of find this) (first_of find other)) _ c.in_ok-check_expr-in-If.ensures.right
    (index_front (first_of find this) (first_of find other) _ c.in_err-check_actions-in-If.ensures.wrong)))

pub check_action-returns-in_err-check_actions-in-If-2-clause-wrong : goal.check_action-returns-in_err-check_actions-in-If-2-clause-wrong
check_action-returns-in_err-check_actions-in-If-2-clause-wrong t c =
    let find = index_fault (module_in c.args.scope.now) in
    let test = expr_indexes (bare (placed_tree c.in-If.test)) in
    let this = action_indexes (bare_actions (placed_actions c.deref.result.now)) in
    let other = action_indexes (bare_actions (placed_actions c.deref-in-If.result.now)) in
    let e = first_if find c.in-If.test _ _ _ _ _ c.in-If.is c.deref.ensures.value c.deref-in-If.ensures.value in
    passed _ _ _ c.from_residual-in_err-check_actions-in-If-2.ensures
    (subst (λ (o : Option (List ℕ × ℕ × ℕ)). TellsIndex o c.in_err-check_actions-in-If-2.field-0.0) (sym e)
    (index_back (first_of find test) (option_or (first_of find this) (first_of find other)) _ c.in_ok-check_expr-in-If.ensures.right
    (index_back (first_of find this) (first_of find other) _ c.in_ok-check_actions-in-If.ensures.right c.in_err-check_actions-in-If-2.ensures.wrong)))

pub check_action-returns-in_ok-check_actions-in-If-2-clause-right : goal.check_action-returns-in_ok-check_actions-in-If-2-clause-right
check_action-returns-in_ok-check_actions-in-If-2-clause-right t c =
    let find = index_fault (module_in c.args.scope.now) in
    let this = action_indexes (bare_actions (placed_actions c.deref.result.now)) in
    let other = action_indexes (bare_actions (placed_actions c.deref-in-If.result.now)) in
    first_if find c.in-If.test _ _ _ _ _ c.in-If.is c.deref.ensures.value c.deref-in-If.ensures.value
    ∙ ap (λ (o : Option (List ℕ × ℕ × ℕ)). option_or o (option_or (first_of find this) (first_of find other))) c.in_ok-check_expr-in-If.ensures.right
    ∙ ap (λ (o : Option (List ℕ × ℕ × ℕ)). option_or o (first_of find other)) c.in_ok-check_actions-in-If.ensures.right
    ∙ c.in_ok-check_actions-in-If-2.ensures.right

pub check_actions-returns-in_err-check_action-clause-wrong : goal.check_actions-returns-in_err-check_action-clause-wrong
check_actions-returns-in_err-check_action-clause-wrong t c =
    let find = index_fault (module_in c.args.scope.now) in
    let here = action_indexes (bare_actions (action_then c.action-item.result Done)) in
    let rest = action_indexes (bare_actions (placed_actions (drop (c.each.action-index + 1) c.args.actions.now))) in
    let e = indexes_at find c.args.actions.now c.each.action-index c.action-item.result c.each-test.true c.action-item.is in
    passed _ _ _ c.from_residual.ensures
    (subst (λ (o : Option (List ℕ × ℕ × ℕ)). TellsIndex o c.in_err-check_action.field-0.0) (sym e ∙ c.each.invariant) (index_front (first_of find here) (first_of find rest) _ c.in_err-check_action.ensures.wrong))

pub check_actions-each-preserved : goal.check_actions-each-preserved
check_actions-each-preserved t c =
    let find = index_fault (module_in c.args.scope.now) in
    let rest = action_indexes (bare_actions (placed_actions (drop (c.each.action-index + 1) c.args.actions.now))) in
    let e = indexes_at find c.args.actions.now c.each.action-index c.action-item.result c.each-test.true c.action-item.is in
    ap (λ (o : Option (List ℕ × ℕ × ℕ)). option_or o (first_of find rest)) (sym c.in_ok-check_action.ensures.right) ∙ sym e ∙ c.each.invariant
