use Rattle.std.proofs.Common.{◌<◌, ◌≤◌, length, arith}
use Rattle.lisa_tree.specs.declared.descriptions.Resource.{Resource}
use Rattle.lisa_tree.specs.Descriptions.{resource_tree}
use Rattle.lisa_tree.specs.Resources.{is_named}
use Rattle.description_tables.proofs.Positions.{next_place, all_places}
use Rattle.description_tables.proofs.globals.resource_places.Goals as goal

pub loop-place-preserved : goal.loop-place-preserved
loop-place-preserved c = λ n.
    let h : c.loop-place.place < length c.args.resources.now = omega arith in
    next_place (λ (r : Resource). is_named n (resource_tree r)) c.args.resources.now c.loop-place.place c.index-resources-place.result _ _ h c.index-resources-place.is (c.loop-place.invariant n) (c.in_ok-enter_resource.ensures n)

pub returns : goal.returns
returns c = λ n.
    let h : length c.args.resources.now ≤ c.loop-place.place = omega arith in
    all_places (λ (r : Resource). is_named n (resource_tree r)) c.args.resources.now c.loop-place.place _ h (c.loop-place.invariant n)
