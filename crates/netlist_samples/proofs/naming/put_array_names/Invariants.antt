use Rattle.std.proofs.Common.{◌≡◌, ◌++◌, map, take}
use Rattle.netlist_samples.proofs.naming.put_array_names.Given as goal

abbrev pub invariant-loop-array : goal.invariant-loop-array
invariant-loop-array l = l.names.items ≡ l.fn.names.items ++ map (λ array. array.name) (take l.array-index l.arrays)
