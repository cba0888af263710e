use Rattle.std.proofs.Common.{◌≡◌, ◌++◌, map, take}
use Rattle.netlist_samples.proofs.naming.put_item_names.Given as goal

abbrev pub invariant-loop-item : goal.invariant-loop-item
invariant-loop-item l = l.names.items ≡ l.fn.names.items ++ map (λ item. item.name) (take l.item-index l.items)
