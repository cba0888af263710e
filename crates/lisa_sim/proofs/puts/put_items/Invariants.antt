-- The items so far are put.
use Rattle.std.proofs.Common.{◌≡◌}
use Rattle.behavior_runs.specs.moment_stores.Stores.{local_count, memory_of, touches_of, KeepsMachine}
use Rattle.lisa_sim.proofs.Puttings.{PutTo}
use Rattle.lisa_sim.proofs.puts.put_items.Given as goal

abbrev pub invariant-each : goal.invariant-each
invariant-each l = record {
  put : PutTo l.places l.items l.place (memory_of l.fn.store) (memory_of l.store);
  cells : (memory_of l.store).cells ≡ (memory_of l.fn.store).cells;
  keeps : KeepsMachine l.fn.store l.store;
  touches : touches_of l.store ≡ touches_of l.fn.store;
  count : local_count l.store ≡ local_count l.fn.store;
}
