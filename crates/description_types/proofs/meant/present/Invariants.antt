use Rattle.std.proofs.Common.{◌≡◌, map, take}
use Rattle.std.specs.Option.{is_some}
use Rattle.description_types.proofs.meant.present.Given as goal

abbrev pub invariant-loop-value : goal.invariant-loop-value
invariant-loop-value g l = l.marks.items ≡ map is_some (take l.value-index l.found)
