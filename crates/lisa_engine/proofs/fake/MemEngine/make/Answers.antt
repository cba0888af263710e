use Rattle.lisa_engine.proofs.MemSteps.{mem_shapes, mem_sizes}
use Rattle.lisa_engine.proofs.fake.MemEngine.make.Goals as goal

pub invariant_of-result-clause-shapes : goal.invariant_of-result-clause-shapes
invariant_of-result-clause-shapes c = mem_shapes c.in_ok-items.ensures c.in_ok-arrays.ensures c.in_ok-pins.ensures

pub invariant_of-result-clause-sizes : goal.invariant_of-result-clause-sizes
invariant_of-result-clause-sizes c = mem_sizes c.in_ok-items.ensures c.in_ok-arrays.ensures c.in_ok-pins.ensures
