use Rattle.std.proofs.Common.{rules, ◌<◌, length, arith}
use Rattle.description_tables.proofs.Rows.{listings_step}
use Rattle.description_tables.proofs.listings.add_listings.Goals as goal

pub loop-number-preserved : goal.loop-number-preserved
loop-number-preserved c =
    let h : c.loop-number.number-index < length c.args.numbers.now = omega arith in
    record {
      count = search rules;
      added = λ o. listings_step c.args.owner o c.args.numbers.now c.loop-number.number-index _ _ _ h (c.loop-number.invariant.added o) (c.in_ok-add_listing.ensures.added o);
    }
