use Rattle.std.proofs.Common.{◌∙◌, arith}
use Rattle.std.proofs.Math.ListN.{length-set}
use Rattle.pipeline_runs.proofs.Lasts.{one_word}
use Rattle.pipeline_runs.proofs.pipeline.Pipeline.next_words.Goals as goal

pub loop-stage-preserved : goal.loop-stage-preserved
loop-stage-preserved g c =
    let far = c.loop-stage.invariant in
    record {
      len = length-set c.loop-stage.next c.loop-stage.stage c.next_word.result ∙ far.len;
      done = one_word (g.B.Behaves.core c.args.self.now.edge.store) c.args.slot c.args.held c.args.flushed c.args.self.now.words c.loop-stage.next c.loop-stage.stage c.next_word.result (omega (arith, far.len, c.loop-stage-test.true)) c.next_word.ensures far.done;
    }

pub returns : goal.returns
returns g c log levels ends stage low = c.loop-stage.invariant.done log levels ends stage (omega arith)
