use Rattle.std.proofs.Common.{◌-◌, ◌*◌, drop}
use Rattle.typed_values.specs.Effects.{turned}
use Rattle.behavior_plans.specs.Acts.{loop_tree, act_tree, act_trees}
use Rattle.behavior_plans.specs.Effects.{loop_turn, act_effect, act_writes, acts_effect, acts_writes}
use Rattle.behavior_plans.specs.Stores.{holdings_of}
use Rattle.behavior_plans.proofs.Loops.{Midway}
use Rattle.behavior_plans.proofs.running.+running.Given as goal

abbrev pub invariant-run_all-loop-act : goal.invariant-run_all-loop-act
invariant-run_all-loop-act l =
    Midway l.fn.store l.store (acts_effect (act_trees (drop l.act-index l.all)) (holdings_of l.store)) (acts_effect (act_trees l.all) (holdings_of l.fn.store))
    (acts_writes (act_trees (drop l.act-index l.all))) (acts_writes (act_trees l.all))

abbrev pub invariant-run_turns-turns : goal.invariant-run_turns-turns
invariant-run_turns-turns l =
    Midway l.fn.store l.store
    (turned (loop_turn (loop_tree l.head) (act_effect (act_tree l.body))) l.head.bounds l.turn (l.turns - l.turn) (holdings_of l.store))
    (turned (loop_turn (loop_tree l.head) (act_effect (act_tree l.body))) l.head.bounds 0 l.turns (holdings_of l.fn.store))
    ((l.turns - l.turn) * act_writes (act_tree l.body)) (l.turns * act_writes (act_tree l.body))
