-- The levels fall with each call, and between calls the statements' depth. What is left to run takes the moment to the same end.
use Rattle.std.proofs.Common.{◌≡◌, ◌≤◌, ◌+◌, ◌-◌, drop}
use Rattle.lisa_tree.specs.Statements.{head_tree, stmt_tree, stmt_trees, stmt_depth, stmts_depth}
use Rattle.typed_values.specs.Effects.{effect, effects, turned, loop_turn}
use Rattle.moment_stores.specs.Stores.{moment_of, local_count, Keeps}
use Rattle.scene_paths.specs.Sights.{sight_tree, scene_at}
use Rattle.behavior_runs.specs.Rooms.{all_locals}
use Rattle.behavior_runs.specs.Running.{doing_within}
use Rattle.behavior_runs.proofs.Work.{work}
use Rattle.behavior_runs.proofs.statements.+statements.Given as goal

abbrev pub decreases-run : goal.decreases-run
decreases-run l = work (sight_tree l.sight) l.levels (stmt_depth (stmt_tree l.statement.now)) 0

abbrev pub decreases-run_all : goal.decreases-run_all
decreases-run_all l = work (sight_tree l.sight) l.levels (stmts_depth (stmt_trees l.all.now)) 1

abbrev pub decreases-run_alone : goal.decreases-run_alone
decreases-run_alone l = work (sight_tree l.sight) l.levels (stmt_depth (stmt_tree l.body.now)) 1

abbrev pub decreases-run_inner : goal.decreases-run_inner
decreases-run_inner l = work (sight_tree l.sight) l.levels (stmts_depth (stmt_trees l.all.now)) 2

abbrev pub decreases-run_turn : goal.decreases-run_turn
decreases-run_turn l = work (sight_tree l.sight) l.levels (stmt_depth (stmt_tree l.body.now)) 1

abbrev pub decreases-run_turns : goal.decreases-run_turns
decreases-run_turns l = work (sight_tree l.sight) l.levels (stmt_depth (stmt_tree l.body.now)) 2

abbrev pub decreases-run_loop : goal.decreases-run_loop
decreases-run_loop l = work (sight_tree l.sight) l.levels (stmt_depth (stmt_tree l.body.now)) 3

abbrev pub decreases-run_child : goal.decreases-run_child
decreases-run_child l = work (sight_tree l.sight) l.levels 0 5

abbrev pub decreases-run_behavior : goal.decreases-run_behavior
decreases-run_behavior l = work (sight_tree l.sight) l.levels 0 4

abbrev pub invariant-run_all-each : goal.invariant-run_all-each
invariant-run_all-each l = record {
  moment : effects (doing_within l.levels (sight_tree l.sight) (scene_at l.sight l.path)) (stmt_trees (drop l.statement-index l.all)) (moment_of l.store)
      ≡ effects (doing_within l.levels (sight_tree l.sight) (scene_at l.sight l.path)) (stmt_trees l.all) (moment_of l.fn.store);
  keeps : Keeps l.fn.store l.store;
  count : local_count l.store + all_locals (stmt_trees (drop l.statement-index l.all)) ≤ local_count l.fn.store + all_locals (stmt_trees l.all);
}

abbrev pub invariant-run_turns-turns : goal.invariant-run_turns-turns
invariant-run_turns-turns l = record {
  moment : turned (loop_turn (doing_within l.levels (sight_tree l.sight) (scene_at l.sight l.path)) (effect (doing_within l.levels (sight_tree l.sight) (scene_at l.sight l.path)) (stmt_tree l.body)) (head_tree l.head)) l.bounds l.turn (l.turns - l.turn) (moment_of l.store)
      ≡ turned (loop_turn (doing_within l.levels (sight_tree l.sight) (scene_at l.sight l.path)) (effect (doing_within l.levels (sight_tree l.sight) (scene_at l.sight l.path)) (stmt_tree l.body)) (head_tree l.head)) l.bounds 0 l.turns (moment_of l.fn.store);
  keeps : Keeps l.fn.store l.store;
  count : local_count l.store ≤ local_count l.fn.store;
}
