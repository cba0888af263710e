use Rattle.noted_names.proofs.Placed.{none_placed}
use Rattle.noted_names.proofs.table.PlaceTable.new.Goals as goal

pub invariant_of-result : goal.invariant_of-result
invariant_of-result c = record { placed = none_placed c.in_ok-memo.memo.table c.in_ok-memo.ensures }
