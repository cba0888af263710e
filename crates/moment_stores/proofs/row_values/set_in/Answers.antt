use Rattle.std.proofs.Common.{refl, ap, get_or}
use Rattle.moment_stores.proofs.Tables.{rows_set}
use Rattle.moment_stores.proofs.row_values.set_in.Goals as goal

pub returns-then-place-len : goal.returns-then-place-len
returns-then-place-len g c =
    let at = get_or c.args.all.now c.args.row in
    let v = c.index-all-row-then-place-len.result in
    rows_set c.args.all.now c.args.row c.args.place c.args.value (at v) _ c.if-row-all.true (ap at c.index-all-row-then-place-len.is) refl
