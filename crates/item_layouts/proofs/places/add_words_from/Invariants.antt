use Rattle.std.proofs.Common.{◌≡◌, ◌++◌, map}
use Rattle.item_layouts.specs.declared.place.ItemPlace.TheVariants.{Word}
use Rattle.item_layouts.proofs.Ranges.{range}
use Rattle.item_layouts.proofs.places.add_words_from.Given as goal

abbrev pub invariant-loop-stage : goal.invariant-loop-stage
invariant-loop-stage l = l.places.items ++ map Word (range l.stage l.stages) ≡ l.fn.places.items ++ map Word (range l.first l.stages)
