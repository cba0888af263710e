use Rattle.std.proofs.Common.{◌≡◌, ◌∙◌, ℕ, map, ap}
use Rattle.step_program.specs.Programs.{move_of}
use Rattle.step_pieces.specs.Drafts.{piece_of}
use Rattle.lowered_layouts.specs.Temps.{lasting_widths}
use Rattle.lowered_edges.specs.Code.{lasting_piece, parts_tree, parts_places, parts_types, parts_operations, parts_layout}
use Rattle.lowered_edges.proofs.Parting.{edge_behind}
use Rattle.lowered_edges.proofs.programs.draft_parts.Goals as goal

pub returns : goal.returns
returns c =
    let p = c.args.parts.now in
    let widths = c.in_ok-temps.ensures ∙ ap (lasting_widths (parts_places p)) c.requires.width in
    let none = c.new-steps.ensures.items in
    edge_behind (parts_tree p) (parts_types p) p.width (parts_operations p) (parts_layout p) _ (piece_of c.lower_edge.new.draft) (lasting_piece (parts_places p) p.width)
    (λ i. record { widths = widths i; moves = map move_of (none i) }) c.in_ok-lower_edge.ensures
