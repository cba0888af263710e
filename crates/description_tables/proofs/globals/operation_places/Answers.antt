use Rattle.std.proofs.Common.{◌<◌, ◌≤◌, length, arith}
use Rattle.lisa_tree.specs.declared.descriptions.Operation.{Operation}
use Rattle.lisa_tree.specs.Same.{same_name}
use Rattle.description_tables.proofs.Positions.{next_place, all_places}
use Rattle.description_tables.proofs.globals.operation_places.Goals as goal

pub loop-place-preserved : goal.loop-place-preserved
loop-place-preserved c = λ n.
    let h : c.loop-place.place < length c.args.operations.now = omega arith in
    next_place (λ (o : Operation). same_name n o.name) c.args.operations.now c.loop-place.place c.index-operations-place.result _ _ h c.index-operations-place.is (c.loop-place.invariant n) (c.in_ok-note_value.ensures n)

pub returns : goal.returns
returns c = λ n.
    let h : length c.args.operations.now ≤ c.loop-place.place = omega arith in
    all_places (λ (o : Operation). same_name n o.name) c.args.operations.now c.loop-place.place _ h (c.loop-place.invariant n)
