use Rattle.std.proofs.Common.{◌≡◌, ◌++◌, filter, map, drop}
use Rattle.placed_programs.specs.Placed.{is_some_cell}
use Rattle.lisa_linker.specs.Tables.{cells_of, filled_with}
use Rattle.lisa_linker.proofs.linking.filled_memories.Given as goal

abbrev pub invariant-loop-memory : goal.invariant-loop-memory
invariant-loop-memory l = l.filled.items ++ filter (λ m. is_some_cell m.cells) (map (filled_with (cells_of l.cells)) (drop l.memory-index l.memories))
    ≡ filter (λ m. is_some_cell m.cells) (map (filled_with (cells_of l.cells)) l.memories)
