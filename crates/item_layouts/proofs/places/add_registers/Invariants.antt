use Rattle.std.proofs.Common.{◌≡◌, ◌++◌, map}
use Rattle.std.specs.List.{range_with_len}
use Rattle.item_layouts.specs.declared.place.ItemPlace.TheVariants.{Register}
use Rattle.item_layouts.proofs.Ranges.{range}
use Rattle.item_layouts.proofs.places.add_registers.Given as goal

abbrev pub invariant-loop-register : goal.invariant-loop-register
invariant-loop-register l = l.places.items ++ map Register (range l.register l.count) ≡ l.fn.places.items ++ map Register (range_with_len 0 l.count)
