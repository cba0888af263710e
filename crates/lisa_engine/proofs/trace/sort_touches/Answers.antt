use Rattle.std.proofs.Common.{rules, ◌≡◌, ◌∙◌, sym, subst, ℕ, ap, List, ◌++◌}
use Rattle.std.specs.Prelude.{find, All}
use Rattle.std.proofs.lemmas.List.Sorted.{All-permutation, answers_always}
use Rattle.lisa_engine.specs.Touches.{IsPlaced}
use Rattle.lisa_engine.specs.Changes.{is_at}
use Rattle.lisa_engine.specs.declared.parts.Touch.{Touch}
use Rattle.lisa_engine.proofs.Rows.{cell_of, is_row, same_found, on_ok, if_ok}
use Rattle.lisa_engine.proofs.trace.sort_touches.Goals as goal

pub returns-clause-sorted : goal.returns-clause-sorted
returns-clause-sorted c = on_ok c.sort_by_key.result (λ h. is_row c.sort_by_key.new.self.items (h cell_of (answers_always _ _ _ (λ f a r g k. search rules)))) c.sort_by_key.ensures.sorted

pub returns-clause-same : goal.returns-clause-same
returns-clause-same c =
    let whole : c.extend_from_slice.new.self.items ≡ c.args.touches.now = c.in_ok-extend_from_slice.ensures.items ∙ ap (λ t. t ++ c.args.touches.now) c.clear.ensures.items in
    if_ok c.sort_by_key.result (λ array index. same_found c.extend_from_slice.new.self.items c.sort_by_key.new.self.items (c.sort_by_key.ensures.stable cell_of (answers_always _ _ _ (λ f a r g k. search rules))) array index ∙ ap (find (is_at array index)) whole)

pub returns-clause-places : goal.returns-clause-places
returns-clause-places c arrays placed =
    let whole : c.extend_from_slice.new.self.items ≡ c.args.touches.now = c.in_ok-extend_from_slice.ensures.items ∙ ap (λ t. t ++ c.args.touches.now) c.clear.ensures.items in
    if_ok c.sort_by_key.result (All-permutation (IsPlaced arrays) c.extend_from_slice.new.self.items c.sort_by_key.new.self.items c.sort_by_key.ensures.permutation (subst (All (IsPlaced arrays)) (sym whole) placed))
