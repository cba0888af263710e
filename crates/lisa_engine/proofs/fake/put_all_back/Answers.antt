use Rattle.std.proofs.Common.{arith, ◌-◌}
use Rattle.lisa_engine.proofs.MemSteps.{mem_index}
use Rattle.lisa_engine.proofs.fake.put_all_back.Goals as goal

pub bounds-cells-touches : goal.bounds-cells-touches
bounds-cells-touches c = omega (arith, mem_index _ (c.requires.0 (c.loop-left.left - 1) (record { array = 0; index = 0; before = 0 }) (omega arith)))
