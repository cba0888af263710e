use Rattle.std.proofs.Common.{◌∙◌, Option, ap, sym}
use Rattle.std.specs.Prelude.{option_map}
use Rattle.std.specs.Borrow.{Bor}
use Rattle.lisa_tree.specs.declared.expressions.Expr.{Expr}
use Rattle.lisa_tree.specs.Expressions.{expr_tree}
use Rattle.step_pieces.specs.Pieces.{behind, top}
use Rattle.step_pieces.specs.Drafts.{piece_of}
use Rattle.lowered_edges.specs.Code.{value_over, parts_tree, parts_places, parts_types}
use Rattle.lowered_edges.proofs.Parting.{same_draft}
use Rattle.lowered_edges.proofs.edge_parts.EdgeParts.condition_value.Goals as goal

pub returns-in-None-clause-draft : goal.returns-in-None-clause-draft
returns-in-None-clause-draft c =
    let p = c.args.self.now in
    let old = piece_of c.args.draft.now in
    same_draft old
    ∙ ap (λ (e : Option (Bor Expr)). behind old (value_over (parts_tree p) (parts_places p) (parts_types p) p.width c.args.number c.args.row (option_map (λ (x : Bor Expr). expr_tree x.now) e) (top 0 old)).piece) (sym c.in-None.is)

pub returns-in-None-clause-out : goal.returns-in-None-clause-out
returns-in-None-clause-out c =
    let p = c.args.self.now in
    let old = piece_of c.args.draft.now in
    c.absent.ensures
    ∙ ap (λ (e : Option (Bor Expr)). (value_over (parts_tree p) (parts_places p) (parts_types p) p.width c.args.number c.args.row (option_map (λ (x : Bor Expr). expr_tree x.now) e) (top 0 old)).out) (sym c.in-None.is)

pub returns-in_ok-source-in-Some-clause-draft : goal.returns-in_ok-source-in-Some-clause-draft
returns-in_ok-source-in-Some-clause-draft c =
    let p = c.args.self.now in
    let old = piece_of c.args.draft.now in
    c.in_ok-source-in-Some.ensures.draft
    ∙ ap (λ (e : Option (Bor Expr)). behind old (value_over (parts_tree p) (parts_places p) (parts_types p) p.width c.args.number c.args.row (option_map (λ (x : Bor Expr). expr_tree x.now) e) (top 0 old)).piece) (sym c.in-Some.is)

pub returns-in_ok-source-in-Some-clause-out : goal.returns-in_ok-source-in-Some-clause-out
returns-in_ok-source-in-Some-clause-out c =
    let p = c.args.self.now in
    let old = piece_of c.args.draft.now in
    c.in_ok-source-in-Some.ensures.out
    ∙ ap (λ (e : Option (Bor Expr)). (value_over (parts_tree p) (parts_places p) (parts_types p) p.width c.args.number c.args.row (option_map (λ (x : Bor Expr). expr_tree x.now) e) (top 0 old)).out) (sym c.in-Some.is)
