use Rattle.std.proofs.Common.{rules, sym, ◌∙◌}
use Rattle.std.proofs.lemmas.Slice.Zip.{Zip-more, either_empty_from_Zip}
use Rattle.machine_parts.proofs.Pairs.{listed_more, passed_over, listed_all}
use Rattle.machine_parts.proofs.firsts.bits_of.Goals as goal

pub loop-resource-init : goal.loop-resource-init
loop-resource-init c = search rules

pub loop-resource-preserved-in-Continue-1 : goal.loop-resource-preserved-in-Continue-1
loop-resource-preserved-in-Continue-1 c =
    let turn = Zip-more c.loop-resource.resource-iterator c.next.new.self c.next.result (c.in-Some.resource, c.in-Some.value) c.in-Some.is c.next.ensures.steps in
    listed_more c.loop-resource.all.items c.push.new.self.items _ _ _ _ _ c.in-Some.resource.now c.in-Some.value.now c.in-Some-register_bits.bits turn.0 turn.1 (sym c.register_bits.ensures ∙ c.in-Some-register_bits.is) c.in_ok-push.ensures.items c.loop-resource.invariant

pub loop-resource-preserved : goal.loop-resource-preserved
loop-resource-preserved c =
    let turn = Zip-more c.loop-resource.resource-iterator c.next.new.self c.next.result (c.in-Some.resource, c.in-Some.value) c.in-Some.is c.next.ensures.steps in
    passed_over c.loop-resource.all.items _ _ _ _ _ c.in-Some.resource.now c.in-Some.value.now turn.0 turn.1 (sym c.register_bits.ensures ∙ c.in_default.is) c.loop-resource.invariant

pub returns : goal.returns
returns c = listed_all c.loop-resource.all.items _ _ _ (either_empty_from_Zip c.loop-resource.resource-iterator c.next.new.self c.next.result c.in-None.is c.next.ensures.steps) c.loop-resource.invariant
