use Rattle.std.proofs.Common.{◌<◌, ◌≤◌, length, arith}
use Rattle.lisa_tree.specs.Same.{same_name}
use Rattle.description_tables.proofs.Positions.{next_place, all_places}
use Rattle.description_tables.proofs.globals.stage_places.Goals as goal

pub loop-place-preserved : goal.loop-place-preserved
loop-place-preserved c = λ n.
    let h : c.loop-place.place < length c.args.stages.now = omega arith in
    next_place (same_name n) c.args.stages.now c.loop-place.place c.index-stages-place.result _ _ h c.index-stages-place.is (c.loop-place.invariant n) (c.in_ok-note_value.ensures n)

pub returns : goal.returns
returns c = λ n.
    let h : length c.args.stages.now ≤ c.loop-place.place = omega arith in
    all_places (same_name n) c.args.stages.now c.loop-place.place _ h (c.loop-place.invariant n)
