use Rattle.std.proofs.Common.{◌∙◌, ap}
use Rattle.lisa_tree.specs.Expressions.{expr_tree}
use Rattle.step_pieces.specs.Pieces.{behind, top}
use Rattle.step_pieces.specs.Drafts.{piece_of}
use Rattle.lowered_values.specs.Computed.{Computed}
use Rattle.lowered_behaviors.specs.lowered_statements.Code.{scope_of}
use Rattle.lowered_layouts.specs.Items.{places_of}
use Rattle.lowered_layouts.specs.Code.{positions_tree}
use Rattle.lowered_layouts.specs.declared.positions.Positions.{Positions}
use Rattle.lowered_behaviors.specs.Code.{ground_of}
use Rattle.lowered_edges.specs.Code.{parts_tree, parts_places, parts_types}
use Rattle.lowered_edges.proofs.Parting.{value_is}
use Rattle.lowered_edges.proofs.edge_parts.EdgeParts.expression_value.Goals as goal

pub returns-clause-draft : goal.returns-clause-draft
returns-clause-draft c =
    let p = c.args.self.now in
    let old = piece_of c.args.draft.now in
    let g = ground_of (λ (x : Positions). places_of (positions_tree x)) c.in_ok-ground.ground in
    let same = c.in_ok-ground.ensures in
    c.in_ok-source.ensures.draft
    ∙ ap (λ (x : Computed). behind old x.piece)
    (value_is (parts_tree p) (parts_types p) p.width (parts_places p) c.args.number c.args.row g c.deref.result.now (scope_of c.new-locals.result) (expr_tree c.args.e.now) (top 0 old)
    same (c.deref.ensures.value ∙ c.in_ok-line.ensures) c.new-locals.ensures)

pub returns-clause-out : goal.returns-clause-out
returns-clause-out c =
    let p = c.args.self.now in
    let old = piece_of c.args.draft.now in
    let g = ground_of (λ (x : Positions). places_of (positions_tree x)) c.in_ok-ground.ground in
    let same = c.in_ok-ground.ensures in
    c.in_ok-source.ensures.out
    ∙ ap (λ (x : Computed). x.out)
    (value_is (parts_tree p) (parts_types p) p.width (parts_places p) c.args.number c.args.row g c.deref.result.now (scope_of c.new-locals.result) (expr_tree c.args.e.now) (top 0 old)
    same (c.deref.ensures.value ∙ c.in_ok-line.ensures) c.new-locals.ensures)
