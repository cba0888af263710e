-- There is a row of no marks for each row before.
use Rattle.std.proofs.Common.{◌≡◌, ℕ, false, map, take}
use Rattle.std.specs.Prelude.{replicate}
use Rattle.std.specs.Global.{Vec}
use Rattle.std.specs.Vec.{vec_len}
use Rattle.moment_stores.specs.Rows.{rows}
use Rattle.moment_stores.proofs.cells.make_marks.Given as goal

abbrev pub invariant-each : goal.invariant-each
invariant-each l = rows l.marks.items ≡ map (λ (row : Vec ℕ). replicate (vec_len row) false) (take l.row-index l.cells)
