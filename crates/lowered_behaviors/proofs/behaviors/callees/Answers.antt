use Rattle.std.proofs.Common.{ℕ, ◌++◌, List, map, ap, ◌∙◌}
use Rattle.lowered_statements.specs.declared.scenes.Callee.{Callee}
use Rattle.lowered_statements.specs.Code.{callee_of}
use Rattle.lowered_behaviors.specs.declared.positions.Position.{Position}
use Rattle.lowered_behaviors.specs.Code.{callee_at, ground_of}
use Rattle.lowered_behaviors.specs.Positions.{alternatives_in, below}
use Rattle.lowered_behaviors.proofs.Called.{each_callee}
use Rattle.lowered_behaviors.proofs.behaviors.callees.Goals as goal

pub each-init : goal.each-init
each-init g c =
    let ground = ground_of g.P.Placing.places c.args.ground.now in
    let reach = c.child_alternatives-reach.result.reach in
    let home = c.home-home.result.now in
    let all = c.child_alternatives-reach.result.operations.now in
    ap (λ (items : List (Callee (List Position × ℕ))). map callee_of items ++ map (λ (o : ℕ). callee_at ground c.args.levels (below reach home o)) all) c.new-callees.ensures.items
    ∙ each_callee ground c.args.levels reach home all
    ∙ ap (map (callee_at ground c.args.levels)) (c.child_alternatives-reach.ensures ∙ ap (alternatives_in ground.description c.args.name.now) c.home-home.ensures)
