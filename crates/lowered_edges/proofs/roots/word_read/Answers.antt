use Rattle.std.proofs.Common.{◌∙◌, Option, ap, sym}
use Rattle.lisa_tree.specs.Expressions.{ExprTree, expr_tree}
use Rattle.lisa_tree.specs.Operations.{sections_at, coding_in}
use Rattle.activation_plans.specs.lisa_meaning.Cores.{root_place}
use Rattle.lowered_behaviors.specs.scene_paths.Lookups.{tree_of}
use Rattle.step_pieces.specs.Pieces.{behind, top}
use Rattle.step_pieces.specs.Drafts.{piece_of}
use Rattle.lowered_values.specs.Computed.{Computed}
use Rattle.lowered_behaviors.specs.lowered_statements.Code.{scope_of}
use Rattle.lowered_layouts.specs.Code.{positions_tree}
use Rattle.lowered_behaviors.specs.Code.{known_names}
use Rattle.lowered_edges.specs.Code.{read_over}
use Rattle.lowered_edges.proofs.Parting.{read_is, same_draft}
use Rattle.lowered_edges.proofs.roots.word_read.Goals as goal

pub returns-in-None-clause-draft : goal.returns-in-None-clause-draft
returns-in-None-clause-draft c types width =
    let d = tree_of c.args.described.now in
    let e = positions_tree c.args.positions.now in
    let old = piece_of c.args.draft.now in
    same_draft old ∙ ap (λ (place : Option ExprTree). behind old (read_over d e types width c.args.operation (top 0 old) place).piece) c.in-None.ensures

pub returns-in-None-clause-out : goal.returns-in-None-clause-out
returns-in-None-clause-out c types width =
    let d = tree_of c.args.described.now in
    let e = positions_tree c.args.positions.now in
    let old = piece_of c.args.draft.now in
    c.absent.ensures ∙ ap (λ (place : Option ExprTree). (read_over d e types width c.args.operation (top 0 old) place).out) c.in-None.ensures

pub returns-in_ok-source-in-Some-clause-draft : goal.returns-in_ok-source-in-Some-clause-draft
returns-in_ok-source-in-Some-clause-draft c types width =
    let d = tree_of c.args.described.now in
    let e = positions_tree c.args.positions.now in
    let old = piece_of c.args.draft.now in
    c.in_ok-source-in-Some.ensures.draft
    ∙ ap (λ (x : Computed). behind old x.piece)
    (read_is d types width e c.args.operation (root_place (coding_in (sections_at d c.args.operation))) (expr_tree c.in-Some.place.now) _ (known_names c.none-none.result) (scope_of c.new-locals.result) (top 0 old)
    c.in-Some.ensures c.in_ok-names-in-Some.ensures c.none-none.ensures c.new-locals.ensures)

pub returns-in_ok-source-in-Some-clause-out : goal.returns-in_ok-source-in-Some-clause-out
returns-in_ok-source-in-Some-clause-out c types width =
    let d = tree_of c.args.described.now in
    let e = positions_tree c.args.positions.now in
    let old = piece_of c.args.draft.now in
    c.in_ok-source-in-Some.ensures.out
    ∙ ap (λ (x : Computed). x.out)
    (read_is d types width e c.args.operation (root_place (coding_in (sections_at d c.args.operation))) (expr_tree c.in-Some.place.now) _ (known_names c.none-none.result) (scope_of c.new-locals.result) (top 0 old)
    c.in-Some.ensures c.in_ok-names-in-Some.ensures c.none-none.ensures c.new-locals.ensures)
