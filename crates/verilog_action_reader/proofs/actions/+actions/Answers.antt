use Rattle.std.proofs.Common.{rules, ◌≡◌, ◌+◌, ◌-◌, ◌<◌, ◌≤◌, IfOk, IfErr, IfSome, Some, None, length, ◌++◌, ◌∷◌, [], refl, arith, sym, ap, ◌∙◌, List}
use Rattle.std.proofs.lemmas.Result.{err_from_is_err_and}
use Rattle.lisa_words.specs.Steps.{◌>>=◌}
use Rattle.verilog_places.specs.Trees as placed
use Rattle.verilog_places.specs.Trees.{PlacedActions, placed_tree, placed_actions, joined}
use Rattle.verilog_places.specs.Spelling.{PlacedToks}
use Rattle.verilog_places.specs.declared.modules.PlacedAction.{PlacedAction}
use Rattle.verilog_places.specs.declared.modules.PlacedAction.TheVariants as acts
use Rattle.verilog_expression_reader.specs.Past.{placed_toks}
use Rattle.verilog_action_reader.specs.Gives.{alone}
use Rattle.verilog_action_reader.specs.Reading.{Answer, actions, action}
use Rattle.verilog_action_reader.proofs.JoinLaws.{actions-push, alone-If}
use Rattle.verilog_action_reader.proofs.ActionEquation.{actions_is}
use Rattle.verilog_action_reader.proofs.ActionLoop.{starts, goes_on, fails_on, is_done, else_none, else_some}
use Rattle.verilog_action_reader.proofs.actions.+actions.Goals as goal

pub action-returns-clause-exact : goal.action-returns-clause-exact
action-returns-clause-exact t c = rw actions_is c.by_front.ensures.exact

pub block-each-init : goal.block-each-init
block-each-init t c =
    let none : c.new-all.result.items ≡ [] = search rules in
    (rw none (starts c.args.budget (placed_toks c.args.tokens.now) (c.grouped-blocks.result.0, placed_toks c.grouped-blocks.result.1.now) c.grouped-blocks.ensures.value), c.grouped-blocks.ensures.shorter.0, c.grouped-blocks.ensures.shorter.1)

pub block-returns-in_err-next-clause-exact : goal.block-returns-in_err-next-clause-exact
block-returns-in_err-next-clause-exact t c =
    let p = err_from_is_err_and c.from_residual.result c.from_residual.ensures.1 in
    rw (p.1, p.2) (fails_on _ _ _ _ _ c.in_err-next.field-0.0 c.each.invariant.0 (omega (arith, c.each-test.true)) c.in_err-next.ensures.exact)

pub block-each-preserved : goal.block-each-preserved
block-each-preserved t c =
    let more : placed_actions c.push.new.self.items ≡ joined (placed_actions c.each.all.items) (alone c.in_ok-next.next) = rw c.in_ok-push.ensures.items (actions-push c.each.all.items c.in_ok-next.next) in
    (rw more (goes_on _ _ _ _ _ _ _ (c.grouped.result.0, placed_toks c.grouped.result.1.now) c.each.invariant.0 (omega (arith, c.each-test.true)) c.in_ok-next.ensures.exact c.grouped.ensures.value), omega (arith, c.each.invariant.1, c.in_ok-next.ensures.shorter, c.grouped.ensures.shorter.0), omega (arith, c.each.invariant.2, c.in_ok-next.ensures.shorter, c.grouped.ensures.shorter.1))

pub block-returns-clause-exact : goal.block-returns-clause-exact
block-returns-clause-exact t c = is_done _ _ _ _ _ c.each.invariant.0 (omega (arith, c.each-test.false))

pub otherwise-returns-in_default-clause-exact : goal.otherwise-returns-in_default-clause-exact
otherwise-returns-in_default-clause-exact t c =
    let none : c.new.result.items ≡ [] = search rules in
    let shape : alone (acts.If c.args.test c.args.this c.new.result) ≡ placed.If (placed_tree c.args.test) (placed_actions c.args.this.items) placed.Done placed.Done =
    alone-If c.args.test c.args.this c.new.result ∙ ap (λ (xs : List PlacedAction). placed.If (placed_tree c.args.test) (placed_actions c.args.this.items) (placed_actions xs) placed.Done) none in
    else_none (placed_tree c.args.test) (placed_actions c.args.this.items) c.args.budget (placed_toks c.args.tokens.now) c.in_default.ensures.value ∙ ap (λ (a : PlacedActions). Some (a, placed_toks c.args.tokens.now)) (sym shape)

pub otherwise-returns-clause-exact : goal.otherwise-returns-clause-exact
otherwise-returns-clause-exact t c =
    let read : actions (action (c.args.budget - 1) (placed_toks c.in-Some.rest.now)) ≡ Some (placed_actions c.in_ok-other.other.items, placed_toks c.in_ok-other.rest.now) = rw (← c.saturating_sub.ensures) c.in_ok-other.ensures.exact in
    else_some (placed_tree c.args.test) (placed_actions c.args.this.items) c.args.budget (placed_toks c.args.tokens.now) (placed_toks c.in-Some.rest.now) c.in-Some.ensures.value
    ∙ ap (λ (z : Answer). z >>= λ other. Some (placed.If (placed_tree c.args.test) (placed_actions c.args.this.items) other.0 placed.Done, other.1)) read
    ∙ ap (λ (a : PlacedActions). Some (a, placed_toks c.in_ok-other.rest.now)) (sym (alone-If c.args.test c.args.this c.in_ok-other.other))
