use Rattle.lisa_engine.proofs.MemSteps.{mem_back, mem_back_shaped}
use Rattle.lisa_engine.proofs.fake.MemEngineEngine.retreat.Goals as goal

pub invariant_of-self-clause-shape : goal.invariant_of-self-clause-shape
invariant_of-self-clause-shape c =
    let s = c.args.self.now in
    mem_back_shaped s.shapes s.has_items s.has_arrays c.put_all_back.ensures c.requires.2

pub returns-clause-back : goal.returns-clause-back
returns-clause-back c l p t =
    let s = c.args.self.now in
    mem_back s.shapes s.has_items s.has_arrays c.put_all_back.ensures t
