use Rattle.std.proofs.Common.{◌≡◌, arith, length}
use Rattle.graph_paths.proofs.Search.{begins, goes, ends, saw_below, popped}
use Rattle.graph_paths.proofs.reaching.reached_from.Goals as goal

pub going-init : goal.going-init
going-init c = begins _ _ _ _ _ _ (c.in_ok-seen.ensures.items_if_clones_equal (λ y e. e)) c.new-work.ensures.items c.in_ok-follow.ensures.length c.in_ok-follow.ensures.seen c.in_ok-follow.ensures.work

pub follow-requires-in-Some-clause-node : goal.follow-requires-in-Some-clause-node
follow-requires-in-Some-clause-node c =
    let l = saw_below c.going.seen.items c.in-Some.node (c.going.invariant.works _ (popped c.going.work.items _ c.in-Some.node c.in-Some.ensures.items)) in
    omega (arith, l, c.going.invariant.len)

pub going-preserved : goal.going-preserved
going-preserved c = goes _ _ c.going.seen.items _ c.going.work.items _ _ c.in-Some.node c.going.invariant c.in-Some.ensures.items c.in_ok-follow-2.ensures.length c.in_ok-follow-2.ensures.seen c.in_ok-follow-2.ensures.work

pub returns-clause-exact : goal.returns-clause-exact
returns-clause-exact c =
    let none : length c.going.work.items ≡ 0 = grind (arith, c.in_default.ensures.variant) in
    λ b. (c.going.invariant.sound b, ends _ _ _ _ c.going.invariant none b)
