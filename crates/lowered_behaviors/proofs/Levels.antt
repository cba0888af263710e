-- EXPRESSIONs of children, level by level.
use Rattle.std.proofs.Common.{◌≡◌, ◌∙◌, ℕ, zero, suc, ◌-◌, ◌<◌, [], Option, None, Some, refl, sym, ap, arith}
use Rattle.lisa_tree.specs.Expressions.{ExprTree}
use Rattle.lisa_tree.specs.Operations.{sections_at, expression_in}
use Rattle.step_program.specs.Programs.{Expr}
use Rattle.step_pieces.specs.Pieces.{Piece, nothing, behind, top}
use Rattle.lowered_values.specs.Computed.{leaf}
use Rattle.lowered_resources.specs.Reading.{absent}
use Rattle.lowered_resources.specs.Putting.{Given}
use Rattle.lowered_statements.proofs.Drafted.{none_adds}
use Rattle.lowered_behaviors.specs.Standpoints.{Standpoint, running}
use Rattle.lowered_behaviors.specs.Values.{Ground, expression_of, value_within}
use Rattle.lowered_behaviors.specs.Behaviors.{puts_within, store_at}
use Rattle.lowered_behaviors.specs.Code.{expressed_within, stored_within}

module _ (g : Ground) (at : Standpoint) (o : ℕ) (here : o ≡ running at) where
  own : (e : Option ExprTree) → e ≡ expression_in (sections_at g.description o) → e ≡ expression_in (sections_at g.description (running at))
  own e is = is ∙ ap (λ (k : ℕ). expression_in (sections_at g.description k)) here

  -- ---- values

  pub not_expressed : (more from : ℕ) → None ≡ expression_in (sections_at g.description o) → expressed_within more g at from ≡ leaf absent
  not_expressed more from is = ap (expression_of (λ (e : ExprTree). value_within more g at [] from e)) (sym (own None is))

  nothing_left : (from : ℕ) (e : Option ExprTree) → expression_of (λ (e : ExprTree). value_within zero g at [] from e) e ≡ leaf absent
  nothing_left from None = refl
  nothing_left from (Some e) = refl

  pub last_expressed : (from : ℕ) → expressed_within zero g at from ≡ leaf absent
  last_expressed from = nothing_left from (expression_in (sections_at g.description (running at)))

  pub one_expressed : (more from : ℕ) (e : ExprTree) → 0 < more → Some e ≡ expression_in (sections_at g.description o) → expressed_within more g at from ≡ value_within (suc (more - 1)) g at [] from e
  one_expressed more from e some is =
      let same : more ≡ suc (more - 1) = omega arith in
      ap (expression_of (λ (e : ExprTree). value_within more g at [] from e)) (sym (own (Some e) is))
      ∙ ap (λ (k : ℕ). value_within k g at [] from e) same

  -- ---- places

  module _ (x : Given) (guard : Expr) where
    pub not_stored : (more : ℕ) (old : Piece) → None ≡ expression_in (sections_at g.description o) → old ≡ behind old (stored_within more g x at guard (top 0 old))
    not_stored more old is =
        none_adds old old refl
        ∙ ap (λ (e : Option ExprTree). behind old (store_at (λ place. puts_within more g at [] guard (top 0 old) place x) e)) (own None is)

    nothing_put : (from : ℕ) (e : Option ExprTree) → nothing ≡ store_at (λ place. puts_within zero g at [] guard from place x) e
    nothing_put from None = refl
    nothing_put from (Some e) = refl

    pub last_stored : (old : Piece) → old ≡ behind old (stored_within zero g x at guard (top 0 old))
    last_stored old = none_adds old old refl ∙ ap (behind old) (nothing_put (top 0 old) (expression_in (sections_at g.description (running at))))

    pub one_stored : (more from : ℕ) (e : ExprTree) → 0 < more → Some e ≡ expression_in (sections_at g.description o) → puts_within (suc (more - 1)) g at [] guard from e x ≡ stored_within more g x at guard from
    one_stored more from e some is =
        let same : suc (more - 1) ≡ more = omega arith in
        ap (λ (k : ℕ). puts_within k g at [] guard from e x) same
        ∙ ap (store_at (λ place. puts_within more g at [] guard from place x)) (own (Some e) is)
