-- The levels fall with each EXPRESSION of a child. What is left of the alternatives does the same in the end.
use Rattle.std.proofs.Common.{◌≡◌, ◌+◌, ◌*◌, drop, map}
use Rattle.scene_paths.specs.Lookups.{tree_of}
use Rattle.step_pieces.specs.Pieces.{behind}
use Rattle.step_pieces.specs.Drafts.{leaf_tree, piece_of}
use Rattle.lowered_statements.specs.Code.{base, given_of}
use Rattle.lowered_behaviors.specs.Standpoints.{alternatives}
use Rattle.lowered_behaviors.specs.Behaviors.{done_by_all}
use Rattle.lowered_behaviors.specs.Code.{ground_of, stored_within}
use Rattle.lowered_behaviors.specs.Positions.{standpoint_of, stood}
use Rattle.lowered_behaviors.proofs.places.+places.Given as goal

abbrev pub decreases-put_below : goal.decreases-put_below
decreases-put_below g l = l.more * 4 + 2

abbrev pub decreases-put_child : goal.decreases-put_child
decreases-put_child g l = l.more * 4 + 1

abbrev pub decreases-put_expression : goal.decreases-put_expression
decreases-put_expression g l = l.more * 4

abbrev pub invariant-put_child-each : goal.invariant-put_child-each
invariant-put_child-each g l =
    let ground = ground_of g.P.Placing.places l.ground in
    let act = stored_within l.more ground (given_of l.given) in
    behind (piece_of l.draft) (done_by_all ground act (leaf_tree l.guard) (base l.draft) (map (stood ground.description l.reach l.home) (drop l.operation-index l.operations)))
    ≡ behind (piece_of l.fn.draft) (done_by_all ground act (leaf_tree l.guard) (base l.fn.draft) (alternatives (tree_of l.ground.words.now.described.now) l.name (standpoint_of ground.description l.positions)))
