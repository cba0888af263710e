use Rattle.std.proofs.Common.{◌∙◌, ℕ, ap}
use Rattle.step_pieces.specs.Pieces.{behind, top}
use Rattle.step_pieces.specs.Drafts.{leaf_tree, piece_of}
use Rattle.lowered_layouts.specs.lowered_words.Loading.{load}
use Rattle.lowered_edges.specs.Code.{parts_tree}
use Rattle.lowered_edges.proofs.parts.EdgePartsParts.load.Goals as goal

pub returns : goal.returns
returns c =
    let p = c.args.self.now in
    let old = piece_of c.args.draft.now in
    c.in_ok-load.ensures ∙ ap (λ (base : ℕ). behind old (load (parts_tree p) p.width base (leaf_tree c.args.word) (top 0 old))) c.in_ok-base.ensures
