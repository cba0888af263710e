use Rattle.std.proofs.Common.{◌++◌, List, sym, ap, ◌∙◌, append_assoc}
use Rattle.lisa_tree.specs.Activations.{act_trees}
use Rattle.stage_checks.specs.Running.{acts_names}
use Rattle.stage_checks.specs.Graphs.{names_in}
use Rattle.stage_checks.proofs.Rows.{act_names-Choose, act_names-ChooseElse}
use Rattle.activation_trees.proofs.starts.+add_names.Goals as goal
use Rattle.std.proofs.Common.{ℕ}

pub add_names-returns-in-None : goal.add_names-returns-in-None
add_names-returns-in-None t c =
    let a = c.in-Choose in
    c.in_ok-add_all_names-in-Choose.ensures
    ∙ ap (λ (l : List (List ℕ)). names_in c.args.row.now.items ++ l) (sym (act_names-Choose c.args.act.now a.field-0 a.chosen a.other c.deref.result.now a.is c.in-None.is c.deref.ensures.value))

pub add_names-returns-in_ok-add_all_names-in-Some : goal.add_names-returns-in_ok-add_all_names-in-Some
add_names-returns-in_ok-add_all_names-in-Some t c =
    let a = c.in-Choose in
    c.in_ok-add_all_names-in-Some.ensures
    ∙ ap (λ (l : List (List ℕ)). l ++ acts_names (act_trees c.deref-in-Some.result.now)) c.in_ok-add_all_names-in-Choose.ensures
    ∙ append_assoc (names_in c.args.row.now.items) (acts_names (act_trees c.deref.result.now)) (acts_names (act_trees c.deref-in-Some.result.now))
    ∙ ap (λ (l : List (List ℕ)). names_in c.args.row.now.items ++ l)
    (sym (act_names-ChooseElse c.args.act.now a.field-0 a.chosen c.in-Some.other a.other c.deref.result.now c.deref-in-Some.result.now a.is c.in-Some.is c.deref.ensures.value c.deref-in-Some.ensures.value))
