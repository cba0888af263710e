use Rattle.std.proofs.Common.{List, ℕ, ◌+◌, drop, sym, ap, ◌∙◌}
use Rattle.name_tables.specs.Keys.{insert_all}
use Rattle.verilog_text.specs.Conditions.{targets}
use Rattle.verilog_places.specs.Trees.{action_then, Done, placed_actions, bare_actions}
use Rattle.verilog_size_checks.proofs.ActionLaws.{targets_if, targets_at}
use Rattle.verilog_size_checks.proofs.DriverLaws.{insert_append}
use Rattle.verilog_size_checks.proofs.drivers.+notes.Goals as goal

pub note_action-returns-in_ok-note_actions-in-If-2 : goal.note_action-returns-in_ok-note_actions-in-If-2
note_action-returns-in_ok-note_actions-in-If-2 t c =
    let this = targets (bare_actions (placed_actions c.deref.result.now)) in
    let other = targets (bare_actions (placed_actions c.deref-in-If.result.now)) in
    c.in_ok-note_actions-in-If-2.ensures
    ∙ ap (λ (keys : List (List ℕ)). insert_all keys other) c.in_ok-note_actions-in-If.ensures
    ∙ sym (insert_append c.args.names.now.keys.items this other)
    ∙ ap (insert_all c.args.names.now.keys.items) (sym (targets_if _ _ _ _ _ _ c.in-If.is c.deref.ensures.value c.deref-in-If.ensures.value))

pub note_actions-each-preserved : goal.note_actions-each-preserved
note_actions-each-preserved t c =
    let here = targets (bare_actions (action_then c.action-item.result Done)) in
    let rest = targets (bare_actions (placed_actions (drop (c.each.action-index + 1) c.args.actions.now))) in
    ap (λ (keys : List (List ℕ)). insert_all keys rest) c.in_ok-note_action.ensures
    ∙ sym (insert_append c.each.names.keys.items here rest)
    ∙ ap (insert_all c.each.names.keys.items) (sym (targets_at c.args.actions.now c.each.action-index c.action-item.result c.each-test.true c.action-item.is))
    ∙ c.each.invariant
