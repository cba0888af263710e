use Rattle.std.proofs.Common.{◌≡◌, ℕ, ◌++◌, drop, map}
use Rattle.scene_paths.specs.Lookups.{tree_of}
use Rattle.lowered_statements.specs.Code.{callee_of}
use Rattle.lowered_behaviors.specs.Code.{callee_at, ground_of}
use Rattle.lowered_behaviors.specs.Positions.{alternatives_in, below, home_in}
use Rattle.lowered_behaviors.proofs.behaviors.callees.Given as goal

abbrev pub invariant-each : goal.invariant-each
invariant-each g l =
    let ground = ground_of g.P.Placing.places l.ground in
    map callee_of l.callees.items ++ map (λ (o : ℕ). callee_at ground l.levels (below l.reach l.home o)) (drop l.operation-index l.operations)
    ≡ map (callee_at ground l.levels) (alternatives_in (tree_of l.ground.words.now.described.now) l.name (home_in (tree_of l.ground.words.now.described.now) l.name l.positions))
