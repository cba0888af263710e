use Rattle.std.proofs.Common.{◌++◌, List, sym, ap, ◌∙◌, arith}
use Rattle.std.proofs.lemmas.Result.{on_ok_weaker}
use Rattle.lisa_tree.specs.declared.descriptions.Act.{Act}
use Rattle.lisa_tree.specs.Activations.{act_tree, act_trees}
use Rattle.lisa_tree.specs.Expressions.{expr_tree}
use Rattle.lisa_printer.specs.CanonicalTokens.{act_tokens, more_acts_tokens, comma_unless}
use Rattle.lisa_printer.specs.Sheets.{Sheet, write_all}
use Rattle.lisa_printer.proofs.SheetLaws.{write_all-append}
use Rattle.lisa_printer.proofs.LoopLaws.{one_more_of, act_tokens-Choose, act_tokens-ChooseElse, choice_written, choice_else_written, acts_after, acts_after-Then}
use Rattle.lisa_printer.proofs.activations.+acts.Goals as goal

pub put_act-returns-in-None : goal.put_act-returns-in-None
put_act-returns-in-None t c =
    let a = c.in-Choose in
    choice_written (expr_tree a.test) (act_trees c.deref.result.now) c.args.page.now c.put_test.new.page c.put_braced_acts.new.page c.in_ok-put_test-in-Choose.ensures
    c.in_ok-put_braced_acts-in-Choose.ensures
    ∙ sym (ap (write_all c.args.page.now) (act_tokens-Choose c.args.a.now a.test a.chosen a.other c.deref.result.now a.is c.in-None.is c.deref.ensures.value))

pub put_act-returns-in_ok-put_word-in-Some : goal.put_act-returns-in_ok-put_word-in-Some
put_act-returns-in_ok-put_word-in-Some t c =
    let a = c.in-Choose in
    on_ok_weaker c.put_braced_acts-in-Some.result
    (λ e.
    choice_else_written (expr_tree a.test) (act_trees c.deref.result.now) (act_trees c.deref-in-Some.result.now) c.args.page.now c.put_test.new.page c.put_braced_acts.new.page
    c.put_word.new.page c.put_braced_acts-in-Some.new.page c.in_ok-put_test-in-Choose.ensures c.in_ok-put_braced_acts-in-Choose.ensures c.in_ok-put_word-in-Some.ensures e
    ∙ sym (ap (write_all c.args.page.now)
    (act_tokens-ChooseElse c.args.a.now a.test a.chosen c.in-Some.other a.other c.deref.result.now c.deref-in-Some.result.now a.is c.in-Some.is c.deref.ensures.value c.deref-in-Some.ensures.value)))
    c.put_braced_acts-in-Some.ensures

pub put_acts-loop-a-preserved : goal.put_acts-loop-a-preserved
put_acts-loop-a-preserved t c =
    let item = c.a-item.result in
    one_more_of (λ (xs : List Act). acts_after c.loop-a.first (act_trees xs)) (λ (xs : List Act). more_acts_tokens (act_trees xs)) item
    (comma_unless c.loop-a.first ++ act_tokens (act_tree item)) (λ xs. acts_after-Then c.loop-a.first (act_tree item) (act_trees xs))
    c.args.all.now c.loop-a.a-index c.loop-a.page c.put_act.new.page _ (omega arith) c.a-item.is c.loop-a.invariant
    (c.in_ok-put_act.ensures ∙ ap (λ (s : Sheet). write_all s (act_tokens (act_tree item))) c.in_ok-put_comma.ensures
    ∙ sym (write_all-append c.loop-a.page (comma_unless c.loop-a.first) (act_tokens (act_tree item))))
