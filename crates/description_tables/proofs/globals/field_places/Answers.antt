use Rattle.std.proofs.Common.{ℕ, List, ◌<◌, ◌≤◌, length, arith}
use Rattle.lisa_tree.specs.declared.tokens.Shape.{Shape}
use Rattle.lisa_tree.specs.Same.{same_name}
use Rattle.description_tables.proofs.Positions.{next_place, all_places}
use Rattle.description_tables.proofs.globals.field_places.Goals as goal

pub loop-place-preserved : goal.loop-place-preserved
loop-place-preserved c = λ n.
    let h : c.loop-place.place < length c.args.fields.now = omega arith in
    next_place (λ (f : Shape × List ℕ). same_name n f.1) c.args.fields.now c.loop-place.place c.index-fields-place.result _ _ h c.index-fields-place.is (c.loop-place.invariant n) (c.in_ok-note_value.ensures n)

pub returns : goal.returns
returns c = λ n.
    let h : length c.args.fields.now ≤ c.loop-place.place = omega arith in
    all_places (λ (f : Shape × List ℕ). same_name n f.1) c.args.fields.now c.loop-place.place _ h (c.loop-place.invariant n)
