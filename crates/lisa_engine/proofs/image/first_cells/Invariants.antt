use Rattle.std.proofs.Common.{◌≡◌, map, take}
use Rattle.lisa_engine.specs.Images.{loaded}
use Rattle.lisa_engine.proofs.image.first_cells.Given as goal

abbrev pub invariant-loop-array : goal.invariant-loop-array
invariant-loop-array l = map (λ c. c.items) l.all.items ≡ map (loaded l.image) (take l.array-index l.arrays)
