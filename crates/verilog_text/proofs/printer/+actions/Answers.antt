use Rattle.std.proofs.Common.{◌≡◌, ◌++◌, List, ◌∷◌, [], map, sym, ap, subst, ◌∙◌, arith, length, ◌<◌, append_assoc}
use Rattle.std.specs.Prelude.{OnOk}
use Rattle.verilog_text.specs.declared.tokens.VKeyword.TheVariants as words
use Rattle.verilog_text.specs.declared.modules.Action.{Action}
use Rattle.verilog_text.specs.Trees.{ActionTrees, Done, If, vexpr_tree, action_then, action_trees}
use Rattle.verilog_text.specs.Tokens.{VToks, Reserved}
use Rattle.verilog_text.specs.Pieces.{piece_tok}
use Rattle.verilog_text.specs.Printing.{action_tokens, actions_size, else_tokens}
use Rattle.verilog_text.proofs.Views.{action_then-If}
use Rattle.verilog_text.proofs.PutLaws.{left_step, action_tokens-then, action_below, else_tokens-some}
use Rattle.verilog_text.proofs.printer.+actions.Goals as goal

pub put_action-returns-in-If : goal.put_action-returns-in-If
put_action-returns-in-If t c =
    let shape : action_then c.args.action.now Done ≡ If (vexpr_tree c.in-If.test) (action_trees c.deref.result.now) (action_trees c.deref-in-If.result.now) Done =
    ap (λ (a : Action). action_then a Done) c.in-If.is ∙ action_then-If c.in-If.test c.in-If.this c.in-If.other Done
    ∙ ap (λ (xs : List Action). If (vexpr_tree c.in-If.test) (action_trees xs) (action_trees c.in-If.other.items) Done) (sym c.deref.ensures.value)
    ∙ ap (λ (xs : List Action). If (vexpr_tree c.in-If.test) (action_trees c.deref.result.now) (action_trees xs) Done) (sym c.deref-in-If.ensures.value) in
    subst (λ (a : ActionTrees). OnOk c.put_if.result (map piece_tok c.put_if.new.out.items ≡ map piece_tok c.args.out.now.items ++ action_tokens a)) (sym shape) c.put_if.ensures

pub put_action-put_if-requires : goal.put_action-put_if-requires
put_action-put_if-requires t c =
    let shape : action_then c.args.action.now Done ≡ If (vexpr_tree c.in-If.test) (action_trees c.deref.result.now) (action_trees c.deref-in-If.result.now) Done =
    ap (λ (a : Action). action_then a Done) c.in-If.is ∙ action_then-If c.in-If.test c.in-If.this c.in-If.other Done
    ∙ ap (λ (xs : List Action). If (vexpr_tree c.in-If.test) (action_trees xs) (action_trees c.in-If.other.items) Done) (sym c.deref.ensures.value)
    ∙ ap (λ (xs : List Action). If (vexpr_tree c.in-If.test) (action_trees c.deref.result.now) (action_trees xs) Done) (sym c.deref-in-If.ensures.value) in
    (omega (arith, ap actions_size shape), tt)

pub put_actions-each-preserved : goal.put_actions-each-preserved
put_actions-each-preserved t c =
    left_step (λ (xs : List Action). action_tokens (action_trees xs)) (λ (a : Action). action_tokens (action_then a Done)) (map piece_tok c.each.out.items) (map piece_tok c.put_action.new.out.items)
    (map piece_tok c.args.out.now.items) c.args.actions.now c.each.action-index c.action-item.result c.action-item.result (λ a rest. action_tokens-then a (action_trees rest)) c.each-test.true c.action-item.is
    c.in_ok-put_action.ensures c.each.invariant

pub put_actions-put_action-requires : goal.put_actions-put_action-requires
put_actions-put_action-requires t c =
    let below = action_below c.args.actions.now c.each.action-index c.action-item.result c.each-test.true in
    (omega (arith, below, ap (λ (a : Action). actions_size (action_then a Done)) c.action-item.is), tt)

pub put_else-returns : goal.put_else-returns
put_else-returns t c =
    let acts : VToks = action_tokens (action_trees c.args.actions.now) in
    let old : VToks = map piece_tok c.args.out.now.items in
    let some : 0 < length c.args.actions.now = omega arith in
    let whole : map piece_tok c.put_word.new.out.items ++ (Reserved words.Begin ∷ (acts ++ Reserved words.End ∷ [])) ≡ old ++ else_tokens (action_trees c.args.actions.now) acts =
    ap (λ (l : VToks). l ++ (Reserved words.Begin ∷ (acts ++ Reserved words.End ∷ []))) c.in_ok-put_word.ensures
    ∙ append_assoc old (Reserved words.Else ∷ []) (Reserved words.Begin ∷ (acts ++ Reserved words.End ∷ []))
    ∙ ap (λ (l : VToks). old ++ l) (sym (else_tokens-some c.args.actions.now acts some)) in
    subst (λ (l : VToks). OnOk c.put_block.result (map piece_tok c.put_block.new.out.items ≡ l)) whole c.put_block.ensures
