use Rattle.std.proofs.Common.{◌≡◌, ◌∙◌, ◌+◌, ap, sym, arith, List, ◌∷◌, drop}
use Rattle.std.proofs.lemmas.List.{drop_more, drop_all}
use Rattle.lisa_object.specs.declared.parts.Object.{Object}
use Rattle.lisa_object.specs.Objects.{object_tree}
use Rattle.assembler_commands.specs.ObjectViews.{trees_of}
use Rattle.assembler_commands.proofs.Digested.{none_seen, one_same, one_other, same_of, other_of}
use Rattle.assembler_commands.proofs.objects.check_digests.Goals as goal

pub loop-place-preserved : goal.loop-place-preserved
loop-place-preserved c =
    let objects = c.args.objects.now in
    let left : drop c.loop-place.place objects ≡ c.index-objects-place.result ∷ drop (c.loop-place.place + 1) objects =
    drop_more objects c.loop-place.place c.index-objects-place.result (omega arith) ∙ ap (λ (x : Object). x ∷ drop (c.loop-place.place + 1) objects) (sym c.index-objects-place.is) in
    one_same c.args.digest (trees_of objects) (object_tree c.index-objects-place.result) _ _ (same_of c.index-objects-place.result.digest c.args.digest c.ne.result c.ne.ensures c.if-ne.false) (rw left at c.loop-place.invariant)

pub returns-then-ne-clause-other : goal.returns-then-ne-clause-other
returns-then-ne-clause-other c =
    let objects = c.args.objects.now in
    let left : drop c.loop-place.place objects ≡ c.index-objects-place.result ∷ drop (c.loop-place.place + 1) objects =
    drop_more objects c.loop-place.place c.index-objects-place.result (omega arith) ∙ ap (λ (x : Object). x ∷ drop (c.loop-place.place + 1) objects) (sym c.index-objects-place.is) in
    one_other c.args.digest (trees_of objects) (object_tree c.index-objects-place.result) _ (c.loop-place.place + 1) (other_of c.index-objects-place.result.digest c.args.digest c.ne.result c.ne.ensures c.if-ne.true) (rw left at c.loop-place.invariant)
