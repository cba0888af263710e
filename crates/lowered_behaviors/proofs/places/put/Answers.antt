use Rattle.std.proofs.Common.{ℕ, suc, ap, ◌∙◌}
use Rattle.lisa_tree.specs.Expressions.{expr_tree}
use Rattle.step_pieces.specs.Pieces.{behind}
use Rattle.step_pieces.specs.Drafts.{leaf_tree, piece_of}
use Rattle.lowered_statements.specs.Code.{base, given_of, scope_of}
use Rattle.lowered_behaviors.specs.Behaviors.{puts_within}
use Rattle.lowered_behaviors.specs.Code.{ground_of}
use Rattle.lowered_behaviors.specs.Positions.{standpoint_of}
use Rattle.lowered_behaviors.proofs.places.put.Goals as goal

pub returns : goal.returns
returns g c =
    let ground = ground_of g.P.Placing.places c.args.ground.now in
    c.in_ok-put_below.ensures
    ∙ ap (λ (k : ℕ). behind (piece_of c.args.draft.now) (puts_within (suc k) ground (standpoint_of ground.description c.args.positions.now) (scope_of c.args.locals.now) (leaf_tree c.args.guard) (base c.args.draft.now) (expr_tree c.args.target.now) (given_of c.args.given))) c.levels-levels.ensures
