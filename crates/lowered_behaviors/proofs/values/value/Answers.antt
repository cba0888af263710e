use Rattle.std.proofs.Common.{ℕ, suc, ap, ◌∙◌}
use Rattle.lisa_tree.specs.Expressions.{expr_tree}
use Rattle.step_pieces.specs.Pieces.{behind}
use Rattle.step_pieces.specs.Drafts.{piece_of}
use Rattle.lowered_statements.specs.Code.{base, scope_of}
use Rattle.lowered_behaviors.specs.Values.{value_within}
use Rattle.lowered_behaviors.specs.Code.{ground_of}
use Rattle.lowered_behaviors.specs.Positions.{standpoint_of}
use Rattle.lowered_behaviors.proofs.values.value.Goals as goal

pub returns-clause-draft : goal.returns-clause-draft
returns-clause-draft g c =
    let ground = ground_of g.P.Placing.places c.args.ground.now in
    c.in_ok-source.ensures.draft
    ∙ ap (λ (k : ℕ). behind (piece_of c.args.draft.now) (value_within (suc k) ground (standpoint_of ground.description c.args.positions.now) (scope_of c.args.locals.now) (base c.args.draft.now) (expr_tree c.args.e.now)).piece) c.levels-levels.ensures

pub returns-clause-out : goal.returns-clause-out
returns-clause-out g c =
    let ground = ground_of g.P.Placing.places c.args.ground.now in
    c.in_ok-source.ensures.out
    ∙ ap (λ (k : ℕ). (value_within (suc k) ground (standpoint_of ground.description c.args.positions.now) (scope_of c.args.locals.now) (base c.args.draft.now) (expr_tree c.args.e.now)).out) c.levels-levels.ensures
