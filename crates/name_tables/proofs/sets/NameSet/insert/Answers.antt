use Rattle.std.proofs.Common.{◌∙◌, ◌≡◌, true, sym, arith}
use Rattle.std.specs.Prelude.{is_ok}
use Rattle.name_tables.proofs.Places.{placed_all}
use Rattle.name_tables.proofs.sets.NameSet.insert.Goals as goal

pub invariant_of-self-2 : goal.invariant_of-self-2
invariant_of-self-2 c =
    let done : is_ok c.push.result ≡ true = c.push.ensures.succeeds (omega (arith, c.in_ok-reserve.ensures.ok)) in
    let absent = sym c.contains.ensures ∙ c.if-contains.false in
    let last = c.len-place.ensures ∙ c.args.self.now.keys.ok.0 in
    record {
      placed = placed_all _ _ _ c.args.self.now.places c.insert.new.self _ _ _ _ _ c.args.self.now.placed absent c.in_ok-key.ensures.cases c.in_ok-copy.ensures.cases last c.in_ok-insert.ensures.updates c.push.ensures.items done c.reserve.ensures.items;
    }
