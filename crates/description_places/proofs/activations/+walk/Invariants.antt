-- What is left has the first fault of all.
use Rattle.std.proofs.Common.{◌≡◌, ◌+◌, ◌*◌, drop}
use Rattle.lisa_tree.specs.Activations.{act_tree, act_trees, act_depth, acts_depth}
use Rattle.description_places.specs.Places.{first, acts_places}
use Rattle.description_places.proofs.activations.+walk.Given as goal

abbrev pub invariant-walk_acts-loop-act : goal.invariant-walk_acts-loop-act
invariant-walk_acts-loop-act g l =
    first (g.C.Condition.breaks l.condition) (acts_places l.operation (act_trees l.acts)) ≡ first (g.C.Condition.breaks l.condition) (acts_places l.operation (act_trees (drop l.act-index l.acts)))

-- The measure of the calls is the depth of the items.
abbrev pub decreases-walk_act : goal.decreases-walk_act
decreases-walk_act g l = 3 * act_depth (act_tree l.act.now)

abbrev pub decreases-walk_chosen : goal.decreases-walk_chosen
decreases-walk_chosen g l = 3 * acts_depth (act_trees l.chosen.now) + 2

abbrev pub decreases-walk_acts : goal.decreases-walk_acts
decreases-walk_acts g l = 3 * acts_depth (act_trees l.acts.now) + 1
