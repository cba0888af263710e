use Rattle.std.proofs.Common.{◌≡◌, ◌+◌, length, ap, arith}
use Rattle.std.proofs.lemmas.List.{length-take}
use Rattle.std.proofs.lemmas.Bool.{false≢true}
use Rattle.std.proofs.lemmas.Grind.{common_steps}
use Rattle.lisa_io.proofs.ReadWhole.{done, more}
use Rattle.lisa_io.proofs.whole.read_whole.Goals as goal

pub returns-then-count-eq0-clause-bytes : goal.returns-then-count-eq0-clause-bytes
returns-then-count-eq0-clause-bytes g c = λ whole tells.
    done g.F.Files.held g.F.Files.faults c.args.files.now c.loop-block.files c.args.name.now c.args.limit _ _ _ c.loop-block.bytes.items whole
    c.loop-block.invariant c.in_ok-count.ensures.bytes (omega arith) c.if-count-eq0.true (omega (arith, length-take (c.min-more.result + 1) c.loop-block.block)) tells

pub returns-then-count-eq0-clause-whole : goal.returns-then-count-eq0-clause-whole
returns-then-count-eq0-clause-whole g c = λ whole tells none within. returns-then-count-eq0-clause-bytes g c whole tells

pub returns-then-count-eq0-clause-cut : goal.returns-then-count-eq0-clause-cut
returns-then-count-eq0-clause-cut g c = λ whole tells none past.
    let same : length c.loop-block.bytes.items ≡ length whole = ap length (returns-then-count-eq0-clause-bytes g c whole tells) in
    omega (arith, same, past, c.loop-block-test.true, c.loop-block.bytes.ok.0)

pub loop-block-preserved : goal.loop-block-preserved
loop-block-preserved g c =
    more g.F.Files.held g.F.Files.faults c.args.files.now c.loop-block.files c.read.new.self c.args.name.now c.read.new.into c.loop-block.bytes.items _ c.args.limit
    c.len-in-loop-block-2.result c.in_ok-count.count
    c.loop-block.invariant c.in_ok-count.ensures.held c.in_ok-count.ensures.later c.in_ok-count.ensures.bytes (λ none. false≢true (c.in_ok-count.ensures.missing none (omega (arith, length-take (c.min-more.result + 1) c.loop-block.block)))) (omega arith) (omega (arith, c.in_ok-count.ensures.bound)) (omega (arith, c.in_ok-count.ensures.bound, length-take (c.min-more.result + 1) c.loop-block.block)) (grind (arith, common_steps))
