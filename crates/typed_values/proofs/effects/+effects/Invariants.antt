-- What is left to run takes the moment to the same end.
use Rattle.std.proofs.Common.{◌≡◌, ◌-◌, drop}
use Rattle.lisa_tree.specs.Statements.{head_tree, stmt_tree, stmt_trees}
use Rattle.typed_values.specs.Effects.{effect, effects, turned, loop_turn}
use Rattle.typed_values.proofs.effects.+effects.Given as goal

abbrev pub invariant-perform-loop-statement : goal.invariant-perform-loop-statement
invariant-perform-loop-statement g l =
    effects (g.D.Does.doing l.doing) (stmt_trees (drop l.statement-index l.all)) (g.D.Does.moment l.state) ≡ effects (g.D.Does.doing l.doing) (stmt_trees l.all) (g.D.Does.moment l.fn.state)

abbrev pub invariant-run_turns-turns : goal.invariant-run_turns-turns
invariant-run_turns-turns g l =
    turned (loop_turn (g.D.Does.doing l.doing) (effect (g.D.Does.doing l.doing) (stmt_tree l.body)) (head_tree l.head)) l.bounds l.turn (l.turns - l.turn) (g.D.Does.moment l.state)
    ≡ turned (loop_turn (g.D.Does.doing l.doing) (effect (g.D.Does.doing l.doing) (stmt_tree l.body)) (head_tree l.head)) l.bounds 0 l.turns (g.D.Does.moment l.fn.state)
