use Rattle.std.proofs.Common.{◌∙◌, refl, sym, map, reverse, arith}
use Rattle.instruction_texts.proofs.Searching.{begins, none_left, found, get_at, searches_on, lighter}
use Rattle.instruction_texts.proofs.common.common_text.Goals as goal

pub meetings-init : goal.meetings-init
meetings-init c = rw (c.in_ok-push.ensures.items, c.new-meetings.ensures.items) (begins c.args.first.now c.args.second.now _ refl refl refl)

pub returns-then-is_end-clause-found : goal.returns-then-is_end-clause-found
returns-then-is_end-clause-found c =
    let ws = reverse (map (λ token. token.now) c.in_ok-tokens.tokens.items) in
    let way = rw c.deref.ensures.value at c.in_ok-tokens.ensures in
    let is = get_at c.meetings.meetings.items c.meetings.number c.index.result.now _ (omega arith) c.index.ensures in
    let both = found c.args.first.now c.args.second.now c.meetings.meetings.items c.meetings.number c.index.result.now ws is c.meetings.invariant (sym c.is_end.ensures ∙ c.if-is_end.true) way in
    (ws, both.0, both.1, c.in_ok-lay_out.ensures)

pub meetings-preserved : goal.meetings-preserved
meetings-preserved c =
    let is = get_at c.meetings.meetings.items c.meetings.number c.index.result.now _ (omega arith) c.index.ensures in
    searches_on c.args.first.now c.args.second.now c.meetings.meetings.items c.follow.new.meetings.items c.meetings.number c.in_ok-follow.ensures c.index.result.now is (sym c.is_end.ensures ∙ c.if-is_end.false) c.meetings.invariant

pub meetings-smaller : goal.meetings-smaller
meetings-smaller c = lighter c.args.first.now c.args.second.now c.meetings.meetings.items c.follow.new.meetings.items c.meetings.number c.in_ok-follow.ensures

pub returns-clause-none : goal.returns-clause-none
returns-clause-none c = none_left c.args.first.now c.args.second.now c.meetings.meetings.items c.meetings.number (omega arith) c.meetings.invariant
