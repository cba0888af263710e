use Rattle.std.proofs.Common.{◌∙◌, ap}
use Rattle.step_pieces.specs.Pieces.{behind, top}
use Rattle.step_pieces.specs.Drafts.{leaf_tree, piece_of}
use Rattle.lowered_behaviors.specs.Code.{ground_of}
use Rattle.lowered_behaviors.specs.Behaviors.{behavior_within}
use Rattle.lowered_behaviors.specs.Positions.{standpoint_of}
use Rattle.lowered_behaviors.proofs.Called.{scene_is}
use Rattle.lowered_behaviors.proofs.behaviors.lower_behavior.Goals as goal

pub returns : goal.returns
returns g c =
    let ground = ground_of g.P.Placing.places c.args.ground.now in
    let old = piece_of c.args.draft.now in
    let guard = leaf_tree c.args.guard in
    c.in_ok-state_scene.ensures
    ∙ ap (behind old) (scene_is ground c.levels-levels.result c.args.positions.items guard (top 0 old)
    ∙ ap (λ n. behavior_within n ground (standpoint_of ground.description c.args.positions.items) guard (top 0 old)) c.levels-levels.ensures)
