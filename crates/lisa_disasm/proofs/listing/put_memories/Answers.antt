use Rattle.std.proofs.Common.{◌+◌, arith}
use Rattle.lisa_engine.specs.Memory.{Memory}
use Rattle.lisa_object.specs.Texts.{text_of}
use Rattle.lisa_engine.proofs.TraceTexts.{unless_none}
use Rattle.lisa_disasm.specs.Listings.{memory_lines}
use Rattle.lisa_disasm.proofs.Putting.{unless_more, unless_whole, unless_early}
use Rattle.lisa_disasm.proofs.listing.put_memories.Goals as goal

pub loop-memory-init : goal.loop-memory-init
loop-memory-init g c = λ d line is syntax each. unless_none

pub returns-in_err-put_memory : goal.returns-in_err-put_memory
returns-in_err-put_memory g c = λ d line is syntax each.
    unless_early (λ (m : Memory). text_of (memory_lines line m)) _ (c.loop-memory.memory-index + 1) _ c.from_residual.ensures.1
    (unless_more (λ (m : Memory). text_of (memory_lines line m)) c.args.memories.now c.loop-memory.memory-index c.memory-item.result (omega arith) c.memory-item.is
    (c.loop-memory.invariant d line is syntax each) (c.in_err-put_memory.ensures d line is syntax each))

pub loop-memory-preserved : goal.loop-memory-preserved
loop-memory-preserved g c = λ d line is syntax each.
    unless_more (λ (m : Memory). text_of (memory_lines line m)) c.args.memories.now c.loop-memory.memory-index c.memory-item.result (omega arith) c.memory-item.is
    (c.loop-memory.invariant d line is syntax each) (c.in_ok-put_memory.ensures d line is syntax each)

pub returns : goal.returns
returns g c = λ d line is syntax each. unless_whole (λ (m : Memory). text_of (memory_lines line m)) _ c.loop-memory.memory-index (omega arith) (c.loop-memory.invariant d line is syntax each)
