use Rattle.std.proofs.Common.{◌∙◌, ap, subst, List, map, Option, Bor, get_or, refl}
use Rattle.std.proofs.lemmas.List.{map-append}
use Rattle.instruction_texts.specs.declared.shapes.Token.{Token}
use Rattle.instruction_texts.specs.declared.places.Reached.{Reached}
use Rattle.instruction_texts.specs.Meetings.{IsLater, start}
use Rattle.instruction_texts.proofs.Searching.{get_at, way_on}
use Rattle.instruction_texts.proofs.common.tokens_to.Goals as goal

pub back-preserved : goal.back-preserved
back-preserved c =
    let m = get_or c.args.meetings.now c.back.number c.index-meetings-number.result in
    let is = get_at c.args.meetings.now c.back.number m c.index-meetings-number.result c.back.invariant.0 refl in
    let l = subst (λ (o : Option Reached). IsLater c.args.meetings.now c.back.number o) c.in-Some.is (c.requires.later c.back.number m is) in
    let e = ap (λ (l : List (Bor Token)). map (λ token. token.now) l) c.in_ok-push.ensures.items ∙ map-append (λ (token : Bor Token). token.now) c.back.tokens.items _ in
    (l.1, way_on c.args.meetings.now c.back.number c.args.last (map (λ token. token.now) c.back.tokens.items) (map (λ token. token.now) c.push.new.self.items) m c.in-Some.reached c.back.invariant.1 is c.in-Some.is e)

pub returns : goal.returns
returns c =
    let m = get_or c.args.meetings.now c.back.number c.index-meetings-number.result in
    let is = get_at c.args.meetings.now c.back.number m c.index-meetings-number.result c.back.invariant.0 refl in
    c.back.invariant.1 _ (start m is c.in_default.is)
