use Rattle.std.proofs.Common.{◌++◌, ◌∙◌, ℕ, List, sym, ap}
use Rattle.noted_names.specs.Standing.{names_of}
use Rattle.noted_names.proofs.Gathered.{act_is, act_with_else_is, joined, joined_three}
use Rattle.noted_names.proofs.meeting.+acts.Goals as goal

pub add_act-returns-in-None : goal.add_act-returns-in-None
add_act-returns-in-None t c =
    let a = c.in-Choose in
    joined _ _ _ _ _ c.in_ok-add_expression-in-Choose.ensures c.in_ok-add_acts-in-Choose.ensures
    ∙ ap (λ (l : List (List ℕ)). names_of c.args.met.now.items ++ l) (sym (act_is c.args.act.now a.test a.chosen a.other c.deref.result.now a.is c.in-None.is c.deref.ensures.value))

pub add_act-returns-in_ok-add_acts-in-Some : goal.add_act-returns-in_ok-add_acts-in-Some
add_act-returns-in_ok-add_acts-in-Some t c =
    let a = c.in-Choose in
    joined_three _ _ _ _ _ _ _ c.in_ok-add_expression-in-Choose.ensures c.in_ok-add_acts-in-Choose.ensures c.in_ok-add_acts-in-Some.ensures
    ∙ ap (λ (l : List (List ℕ)). names_of c.args.met.now.items ++ l)
    (sym (act_with_else_is c.args.act.now a.test a.chosen c.in-Some.other a.other c.deref.result.now c.deref-in-Some.result.now a.is c.in-Some.is c.deref.ensures.value c.deref-in-Some.ensures.value))
