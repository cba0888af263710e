use Rattle.std.proofs.Common.{◌≡◌, ◌++◌}
use Rattle.std.specs.List.{flat_map, range_with_len}
use Rattle.item_layouts.proofs.Ranges.{range}
use Rattle.lowered_layouts.proofs.lasting.add_times.Given as goal

abbrev pub invariant-loop-time : goal.invariant-loop-time
invariant-loop-time l = l.widths.items ++ flat_map (λ _. l.block) (range l._time l.times) ≡ l.fn.widths.items ++ flat_map (λ _. l.block) (range_with_len 0 l.times)
