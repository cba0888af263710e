use Rattle.step_pieces.specs.Drafts.{leaf_tree, piece_of}
use Rattle.lowered_layouts.specs.Items.{places_of}
use Rattle.lowered_layouts.specs.Code.{positions_tree}
use Rattle.lowered_layouts.specs.declared.positions.Positions.{Positions}
use Rattle.lowered_behaviors.specs.Code.{ground_of}
use Rattle.lowered_edges.specs.Code.{parts_tree, parts_places, parts_types}
use Rattle.lowered_edges.proofs.Parting.{behaved}
use Rattle.lowered_edges.proofs.parts.EdgePartsParts.behavior.Goals as goal

pub returns : goal.returns
returns c =
    let p = c.args.self.now in
    behaved (parts_tree p) (parts_types p) p.width (parts_places p) c.args.number c.args.row (ground_of (λ (x : Positions). places_of (positions_tree x)) c.in_ok-ground.ground) c.in_ok-line.line.items
    (leaf_tree c.args.guard) (piece_of c.args.draft.now) (piece_of c.lower_behavior.new.draft) c.in_ok-ground.ensures c.in_ok-line.ensures c.in_ok-lower_behavior.ensures
