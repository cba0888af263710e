use Rattle.std.proofs.Common.{◌∙◌, sym}
use Rattle.lisa_tree.specs.Statements.{head_tree, stmt_tree}
use Rattle.typed_values.specs.Effects.{effect, loop_turn}
use Rattle.typed_values.proofs.Blocks.{effect-Block}
use Rattle.typed_values.proofs.Turns.{turn_more}
use Rattle.typed_values.proofs.effects.+effects.Goals as goal

pub run-returns-in_ok-run_inner-in-Block : goal.run-returns-in_ok-run_inner-in-Block
run-returns-in_ok-run_inner-in-Block g t c =
    c.in_ok-run_inner-in-Block.ensures ∙ sym (effect-Block (g.D.Does.doing c.args.doing.now) (g.D.Does.moment c.args.state.now) c.args.statement.now c.in-Block.all c.as_slice.result.now c.in-Block.is c.as_slice.ensures.value)

pub run_turns-turns-preserved : goal.run_turns-turns-preserved
run_turns-turns-preserved g t c =
    let turn = loop_turn (g.D.Does.doing c.args.doing.now) (effect (g.D.Does.doing c.args.doing.now) (stmt_tree c.args.body.now)) (head_tree c.args.head.now) in
    turn_more turn c.args.bounds c.turns.turn c.turns-turns.result (g.D.Does.moment c.turns.state) (g.D.Does.moment c.run_turn.new.state) _ c.turns-test.true c.turns.invariant c.in_ok-run_turn.ensures
