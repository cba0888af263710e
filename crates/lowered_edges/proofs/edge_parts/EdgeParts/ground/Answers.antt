use Rattle.lowered_layouts.specs.Items.{places_of}
use Rattle.lowered_layouts.specs.Code.{positions_tree}
use Rattle.lowered_layouts.specs.declared.positions.Positions.{Positions}
use Rattle.lowered_behaviors.specs.Code.{ground_of}
use Rattle.lowered_edges.specs.Code.{parts_tree, parts_places, parts_types}
use Rattle.lowered_edges.proofs.Parting.{ground_is}
use Rattle.lowered_edges.proofs.edge_parts.EdgeParts.ground.Goals as goal

pub returns : goal.returns
returns c =
    let p = c.args.self.now in
    ground_is (parts_tree p) (parts_types p) p.width (parts_places p) c.args.number c.args.row c.in_ok-base.base (ground_of (λ (x : Positions). places_of (positions_tree x)) c.new.result)
    c.in_ok-base.ensures c.new.ensures
