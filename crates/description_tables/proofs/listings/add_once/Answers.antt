use Rattle.std.proofs.Common.{ℕ, List, [], ◌∷◌, ap, sym, ◌∙◌, subst}
use Rattle.description_tables.specs.Laws.{ends_in, Joins}
use Rattle.description_tables.proofs.Rows.{known, pushed}
use Rattle.description_tables.proofs.listings.add_once.Goals as goal

pub returns-then-ends_in : goal.returns-then-ends_in
returns-then-ends_in c =
    known c.args.row.now.items c.args.number (ap (λ (r : List ℕ). ends_in r c.args.number) (sym c.deref.ensures.value) ∙ sym c.ends_in.ensures ∙ c.if-ends_in.true)

pub returns : goal.returns
returns c =
    subst (λ (new : List ℕ). Joins c.args.row.now.items new (c.args.number ∷ [])) (sym c.in_ok-push.ensures.items)
    (pushed c.args.row.now.items c.args.number (ap (λ (r : List ℕ). ends_in r c.args.number) (sym c.deref.ensures.value) ∙ sym c.ends_in.ensures ∙ c.if-ends_in.false))
