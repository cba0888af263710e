use Rattle.std.proofs.Common.{◌≡◌, List, ℕ, Option, ◌+◌, drop, refl, sym, ap, subst, ◌∙◌}
use Rattle.std.specs.Option.{option_or}
use Rattle.verilog_text.specs.Conditions.{targets}
use Rattle.verilog_places.specs.Trees.{action_then, Done, placed_actions, bare_actions}
use Rattle.verilog_size_checks.specs.Sought.{first_of, again, TellsDriver}
use Rattle.verilog_size_checks.proofs.FirstLaws.{first_append}
use Rattle.verilog_size_checks.proofs.ActionLaws.{targets_if, targets_at}
use Rattle.verilog_size_checks.proofs.TellingLaws.{driver_front, driver_back, passed}
use Rattle.verilog_size_checks.proofs.drivers.+checks.Goals as goal

pub check_action-returns-in_err-check_actions-in-If-clause-wrong : goal.check_action-returns-in_err-check_actions-in-If-clause-wrong
check_action-returns-in_err-check_actions-in-If-clause-wrong t c =
    let find = again c.args.earlier.now.keys.items in
    let this = targets (bare_actions (placed_actions c.deref.result.now)) in
    let other = targets (bare_actions (placed_actions c.in-If.other.items)) in
    let e : first_of find (targets (bare_actions (action_then c.args.action.now Done))) ≡ option_or (first_of find this) (first_of find other) =
    ap (first_of find) (targets_if _ _ _ _ _ _ c.in-If.is c.deref.ensures.value refl) ∙ first_append find this other in
    passed _ _ _ c.from_residual-in_err-check_actions-in-If.ensures
    (subst (λ (o : Option (List ℕ)). TellsDriver o c.in_err-check_actions-in-If.field-0.0) (sym e) (driver_front (first_of find this) (first_of find other) _ c.in_err-check_actions-in-If.ensures.wrong))

pub check_action-returns-in_err-check_actions-in-If-2-clause-wrong : goal.check_action-returns-in_err-check_actions-in-If-2-clause-wrong
check_action-returns-in_err-check_actions-in-If-2-clause-wrong t c =
    let find = again c.args.earlier.now.keys.items in
    let this = targets (bare_actions (placed_actions c.deref.result.now)) in
    let other = targets (bare_actions (placed_actions c.deref-in-If.result.now)) in
    let e : first_of find (targets (bare_actions (action_then c.args.action.now Done))) ≡ option_or (first_of find this) (first_of find other) =
    ap (first_of find) (targets_if _ _ _ _ _ _ c.in-If.is c.deref.ensures.value c.deref-in-If.ensures.value) ∙ first_append find this other in
    passed _ _ _ c.from_residual-in_err-check_actions-in-If-2.ensures
    (subst (λ (o : Option (List ℕ)). TellsDriver o c.in_err-check_actions-in-If-2.field-0.0) (sym e)
    (driver_back (first_of find this) (first_of find other) _ c.in_ok-check_actions-in-If.ensures.right c.in_err-check_actions-in-If-2.ensures.wrong))

pub check_action-returns-in_ok-check_actions-in-If-2-clause-right : goal.check_action-returns-in_ok-check_actions-in-If-2-clause-right
check_action-returns-in_ok-check_actions-in-If-2-clause-right t c =
    let find = again c.args.earlier.now.keys.items in
    let this = targets (bare_actions (placed_actions c.deref.result.now)) in
    let other = targets (bare_actions (placed_actions c.deref-in-If.result.now)) in
    ap (first_of find) (targets_if _ _ _ _ _ _ c.in-If.is c.deref.ensures.value c.deref-in-If.ensures.value) ∙ first_append find this other
    ∙ ap (λ (o : Option (List ℕ)). option_or o (first_of find other)) c.in_ok-check_actions-in-If.ensures.right
    ∙ c.in_ok-check_actions-in-If-2.ensures.right

pub check_actions-returns-in_err-check_action-clause-wrong : goal.check_actions-returns-in_err-check_action-clause-wrong
check_actions-returns-in_err-check_action-clause-wrong t c =
    let find = again c.args.earlier.now.keys.items in
    let here = targets (bare_actions (action_then c.action-item.result Done)) in
    let rest = targets (bare_actions (placed_actions (drop (c.each.action-index + 1) c.args.actions.now))) in
    let e = ap (first_of find) (targets_at c.args.actions.now c.each.action-index c.action-item.result c.each-test.true c.action-item.is) ∙ first_append find here rest in
    passed _ _ _ c.from_residual.ensures
    (subst (λ (o : Option (List ℕ)). TellsDriver o c.in_err-check_action.field-0.0) (sym e ∙ c.each.invariant) (driver_front (first_of find here) (first_of find rest) _ c.in_err-check_action.ensures.wrong))

pub check_actions-each-preserved : goal.check_actions-each-preserved
check_actions-each-preserved t c =
    let find = again c.args.earlier.now.keys.items in
    let here = targets (bare_actions (action_then c.action-item.result Done)) in
    let rest = targets (bare_actions (placed_actions (drop (c.each.action-index + 1) c.args.actions.now))) in
    let e = ap (first_of find) (targets_at c.args.actions.now c.each.action-index c.action-item.result c.each-test.true c.action-item.is) ∙ first_append find here rest in
    ap (λ (o : Option (List ℕ)). option_or o (first_of find rest)) (sym c.in_ok-check_action.ensures.right) ∙ sym e ∙ c.each.invariant
