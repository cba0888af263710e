use Rattle.std.proofs.Common.{◌≡◌, ◌++◌, take}
use Rattle.std.specs.List.{flat_map}
use Rattle.lisa_object.specs.Texts.{text_of, memory_lines}
use Rattle.lisa_object.proofs.image_text.put_memories.Given as goal

abbrev pub invariant-loop-memory : goal.invariant-loop-memory
invariant-loop-memory l = l.out.items ≡ l.fn.out.items ++ text_of (flat_map memory_lines (take l.memory-index l.memories))
