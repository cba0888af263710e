use Rattle.lisa_tree.specs.Activations.{act_tree, act_trees}
use Rattle.lisa_meaning.specs.Cores.{item_conditions, items_conditions}
use Rattle.scene_paths.proofs.Acts.{chosen_conditions, either_conditions, added, added_both}
use Rattle.scene_paths.proofs.conditions.+conditions.Goals as goal

pub add_conditions-returns-in-None : goal.add_conditions-returns-in-None
add_conditions-returns-in-None t c =
    let a = c.in-Choose in
    added _ _ _ _ (items_conditions (act_trees c.deref.result.now)) (item_conditions (act_tree c.args.act.now)) c.in_ok-push-in-Choose.ensures.items c.in_ok-add_all_conditions-in-Choose.ensures
    (chosen_conditions c.args.act.now a.test a.chosen a.other c.deref.result.now a.is c.in-None.is c.deref.ensures.value)

pub add_conditions-returns-in_ok-add_all_conditions-in-Some : goal.add_conditions-returns-in_ok-add_all_conditions-in-Some
add_conditions-returns-in_ok-add_all_conditions-in-Some t c =
    let a = c.in-Choose in
    added_both _ _ _ _ _ (items_conditions (act_trees c.deref.result.now)) (items_conditions (act_trees c.deref-in-Some.result.now)) (item_conditions (act_tree c.args.act.now)) c.in_ok-push-in-Choose.ensures.items
    c.in_ok-add_all_conditions-in-Choose.ensures c.in_ok-add_all_conditions-in-Some.ensures
    (either_conditions c.args.act.now a.test a.chosen c.in-Some.other a.other c.deref.result.now c.deref-in-Some.result.now a.is c.in-Some.is c.deref.ensures.value c.deref-in-Some.ensures.value)
