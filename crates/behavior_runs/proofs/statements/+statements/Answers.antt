use Rattle.std.proofs.Common.{◌<◌, ◌∙◌, ap, sym, List, option_map, arith}
use Rattle.std.specs.Borrow.{Bor}
use Rattle.lisa_tree.specs.declared.statements.Stmt.{Stmt}
use Rattle.lisa_tree.specs.Statements.{head_tree, stmt_tree, stmt_trees, stmt_depth, stmts_depth}
use Rattle.lisa_tree.specs.Descriptions.{DescriptionTree}
use Rattle.lisa_tree.specs.Operations.{behavior_in, sections_at}
use Rattle.typed_values.specs.Effects.{effect, loop_turn}
use Rattle.typed_values.proofs.Blocks.{effect-Block}
use Rattle.typed_values.proofs.Turns.{turn_more}
use Rattle.moment_stores.specs.Stores.{moment_of, outer_locals}
use Rattle.scene_paths.specs.Paths.{links_of, links_in}
use Rattle.scene_paths.specs.Sights.{sight_tree, form_of, scene_at}
use Rattle.behavior_runs.specs.Rooms.{all_locals, locals_in}
use Rattle.behavior_runs.specs.Running.{doing_within}
use Rattle.behavior_runs.proofs.BlockTrees.{block_is}
use Rattle.behavior_runs.proofs.Work.{body_less, body_depth, body_locals, depth_at}
use Rattle.behavior_runs.proofs.Room.{fewer, body_room, same_all}
use Rattle.behavior_runs.proofs.Listed.{room_here}
use Rattle.behavior_runs.proofs.Bodies.{whole_run, no_child_run, none_of}
use Rattle.behavior_runs.proofs.statements.+statements.Goals as goal

pub run-run_inner-requires : goal.run-run_inner-requires
run-run_inner-requires t c =
    let tree = block_is c.args.statement.now c.in-Block.all c.as_slice.result.now c.in-Block.is c.as_slice.ensures.value in
    let depth = ap stmt_depth tree in
    let count = ap locals_in tree in (
      omega (arith, c.decreases, depth),
      (
        fewer (sight_tree c.args.sight) c.args.levels (locals_in (stmt_tree c.args.statement.now)) (all_locals (stmt_trees c.as_slice.result.now)) c.args.store.now c.requires.room (omega (arith, count)),
        omega (arith, c.requires.shallow, depth),
      ),
    )

pub run-returns-in-Block-clause-moment : goal.run-returns-in-Block-clause-moment
run-returns-in-Block-clause-moment t c =
    c.run_inner.ensures.moment
    ∙ sym (effect-Block (doing_within c.args.levels (sight_tree c.args.sight) (scene_at c.args.sight c.args.path.now)) (moment_of c.args.store.now) c.args.statement.now c.in-Block.all c.as_slice.result.now c.in-Block.is c.as_slice.ensures.value)

pub run_all-run-requires : goal.run_all-run-requires
run_all-run-requires t c =
    let all = c.args.all.now in
    let i = c.each.statement-index in
    let s = c.statement-item.result in
    let depth = depth_at all i s c.each-test.true c.statement-item.is in (
      omega (arith, c.decreases, depth),
      (
        room_here all i s c.each-test.true c.statement-item.is (sight_tree c.args.sight) c.args.levels c.args.store.now c.each.store c.requires.room c.each.invariant.keeps c.each.invariant.count,
        omega (arith, c.requires.shallow, depth),
      ),
    )

pub run_turns-turns-preserved : goal.run_turns-turns-preserved
run_turns-turns-preserved t c =
    let doing = doing_within c.args.levels (sight_tree c.args.sight) (scene_at c.args.sight c.args.path.now) in
    let turn = loop_turn doing (effect doing (stmt_tree c.args.body.now)) (head_tree c.args.head.now) in
    record {
      moment = turn_more turn c.args.bounds c.turns.turn c.turns-turns.result (moment_of c.turns.store) (moment_of c.run_turn.new.store) _ c.turns-test.true c.turns.invariant.moment c.run_turn.ensures.moment;
      keeps = same_all c.args.store.now c.turns.store c.run_turn.new.store c.turns.invariant.keeps c.run_turn.ensures.keeps;
      count = omega (arith, c.turns.invariant.count, c.run_turn.ensures.count);
    }

pub run_child-returns-in_default-child-clause-moment : goal.run_child-returns-in_default-child-clause-moment
run_child-returns-in_default-child-clause-moment t c =
    let d = sight_tree c.args.sight in
    let form = form_of c.args.sight in
    let none = none_of c.child.result c.in_default-child.not-Some in
    no_child_run d form c.args.name.now (links_of d form c.args.path.now) (links_of d form c.in-Some.home) c.args.levels (scene_at c.args.sight c.args.path.now) (moment_of c.args.store.now)
    (ap (links_in d form) (sym c.in-Some.is) ∙ c.home.ensures) (ap (links_in d form) (sym none) ∙ c.child.ensures)

pub run_behavior-run_all-requires : goal.run_behavior-run_all-requires
run_behavior-run_all-requires t c =
    let d = sight_tree c.args.sight in
    let o = c.in-Some.operation in
    let all = stmt_trees c.in-Some-behavior_at.all.now in
    let some : 0 < c.args.levels = omega arith in
    let has =
    sym (c.behavior_at.ensures ∙ ap (λ (x : DescriptionTree). behavior_in (sections_at x o)) (c.machine.ensures ∙ c.requires.description))
    ∙ ap (option_map (λ (own : Bor (List Stmt)). stmt_trees own.now)) c.in-Some-behavior_at.is in
    let depth = body_depth d o all has in
    let less = body_less d c.args.levels (stmts_depth all) 4 some depth in (
      omega (arith, c.decreases, less),
      (
        body_room d c.args.levels (all_locals all) c.args.store.now c.enter-outer.new.self c.requires c.enter-outer.ensures.keeps c.enter-outer.ensures.count (body_locals d o all has) some,
        depth,
      ),
    )

pub run_behavior-returns-clause-moment : goal.run_behavior-returns-clause-moment
run_behavior-returns-clause-moment t c =
    let d = sight_tree c.args.sight in
    let o = c.in-Some.operation in
    let all = stmt_trees c.in-Some-behavior_at.all.now in
    let some : 0 < c.args.levels = omega arith in
    let is = sym c.operation.ensures ∙ c.in-Some.is in
    let has =
    sym (c.behavior_at.ensures ∙ ap (λ (x : DescriptionTree). behavior_in (sections_at x o)) (c.machine.ensures ∙ c.requires.description))
    ∙ ap (option_map (λ (own : Bor (List Stmt)). stmt_trees own.now)) c.in-Some-behavior_at.is in
    whole_run c.enter-outer.result (outer_locals c.args.store.now) (outer_locals c.enter-outer.new.self) (outer_locals c.run_all.new.store)
    (moment_of c.args.store.now) (moment_of c.enter-outer.new.self) (moment_of c.run_all.new.store) (moment_of c.exit.new.self)
    c.enter-outer.ensures.place c.enter-outer.ensures.moment c.enter-outer.ensures.outer c.run_all.ensures.keeps.outer c.exit.ensures.moment
    c.args.levels o d (scene_at c.args.sight c.args.path.now) all c.run_all.ensures.moment some is has
