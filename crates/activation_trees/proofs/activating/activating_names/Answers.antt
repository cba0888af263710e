use Rattle.std.proofs.Common.{◌+◌, ℕ, drop, map}
use Rattle.stage_checks.specs.Graphs.{names_in}
use Rattle.activation_trees.specs.Starting.{plain_named, names_by}
use Rattle.activation_trees.proofs.Rows.{regroup}
use Rattle.activation_trees.proofs.Placing.{one_by}
use Rattle.activation_trees.proofs.activating.activating_names.Goals as goal

pub loop-name-preserved : goal.loop-name-preserved
loop-name-preserved g c =
    let d = g.N.Names.tree c.args.names.now in
    let o = c.args.operation in
    let all = c.deref-name-items.result.now in
    let i = c.loop-name.name-index in
    let x = c.name-item.result in
    regroup (names_in c.loop-name.row.items) (map (λ (y : ℕ). x.now) (plain_named d o x.now)) (names_in c.add_name.new.row.items) (names_by d o (names_in (drop (i + 1) all)))
    (names_by d o (names_in all)) (names_by d o (names_in (drop i all))) c.in_ok-add_name.ensures c.loop-name.invariant (one_by d o all i x c.loop-name-test.true c.name-item.is)
