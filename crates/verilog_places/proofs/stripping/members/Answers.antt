use Rattle.std.proofs.Common.{◌≡◌, List, map, ap, ◌∙◌, arith}
use Rattle.std.proofs.lemmas.Grind.{common_steps}
use Rattle.verilog_places.specs.declared.modules.PlacedMember.{PlacedMember}
use Rattle.verilog_places.specs.Trees.{placed_member, bare_members}
use Rattle.verilog_places.specs.Clocks.{clocked}
use Rattle.verilog_places.proofs.ListSteps.{yields_whole}
use Rattle.verilog_places.proofs.stripping.members.Goals as goal

pub each-preserved : goal.each-preserved
each-preserved c = λ clock. grind (arith, common_steps, c.each.invariant clock, c.in_ok-one.ensures clock)

pub returns : goal.returns
returns c = λ clock.
    let made = c.into_iter-one-iterator in
    let whole : c.each.yielded ≡ c.args.members.items =
    yields_whole made.result c.each.one-iterator c.next.new.self c.args.members.items c.each.yielded c.next.result made.ensures.into_iter_gives.0 (made.ensures.into_iter_gives.1 ∙ c.args.members.ok.0) c.each.yielded_by c.in-None.is
    c.next.ensures.steps in
    c.each.invariant clock ∙ ap (λ (ys : List PlacedMember). map (clocked clock) (bare_members (map placed_member ys))) whole
