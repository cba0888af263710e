-- The bits so far, and those of what is left.
use Rattle.std.proofs.Common.{◌≡◌, ◌++◌, map}
use Rattle.std.specs.Prelude.{filter_map, zip}
use Rattle.std.specs.Iterator.Adapters.{zip_first, zip_second}
use Rattle.std.specs.Slice.Iter.{iter_rest}
use Rattle.lisa_tree.specs.Descriptions.{resource_tree}
use Rattle.typed_values.specs.Words.{typed_word}
use Rattle.machine_parts.specs.Parts.{register_bits}
use Rattle.machine_parts.proofs.firsts.bits_of.Given as goal

abbrev pub invariant-loop-resource : goal.invariant-loop-resource
invariant-loop-resource l =
    l.all.items ++ filter_map register_bits (zip (map resource_tree (iter_rest (zip_first l.resource-iterator))) (map typed_word (iter_rest (zip_second l.resource-iterator))))
    ≡ filter_map register_bits (zip (map resource_tree l.resources) (map typed_word l.values))
