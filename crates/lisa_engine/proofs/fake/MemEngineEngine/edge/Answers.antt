use Rattle.std.proofs.Common.{arith}
use Rattle.lisa_engine.proofs.MemSteps.{count_small, pin_small, cell_small, shaped_next, tracks_edge}
use Rattle.lisa_engine.proofs.fake.MemEngineEngine.edge.Goals as goal

pub overflow_add-self : goal.overflow_add-self
overflow_add-self c = omega (arith, count_small c.args.self.now.shape)

pub invariant_of-self-clause-shape : goal.invariant_of-self-clause-shape
invariant_of-self-clause-shape c = shaped_next _ _ _ c.args.self.now.shape (omega arith) (pin_small c.args.self.now.has_pins c.requires)

pub returns-clause-touches : goal.returns-clause-touches
returns-clause-touches c =
    tracks_edge _ _ _ _ _ c.args.self.now.has_arrays (omega arith) (count_small c.args.self.now.shape) (cell_small _ c.args.self.now.shape (omega arith))
