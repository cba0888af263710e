use Rattle.std.proofs.Common.{◌∙◌, ◌<◌, length, arith}
use Rattle.lisa_io.proofs.Failing.{forgotten_kept, forgotten_below, none_failed}
use Rattle.lisa_io.proofs.files.forget_faults.Goals as goal

pub loop-file-preserved : goal.loop-file-preserved
loop-file-preserved c =
    let within : c.loop-file.file-index < length c.loop-file.files = omega (arith, c.loop-file-test.true) in (
      forgotten_kept c.loop-file.files c.loop-file.file-index c.file-item.result ∙ c.loop-file.invariant.0,
      forgotten_below c.loop-file.files c.loop-file.file-index c.file-item.result within c.loop-file.invariant.1,
    )

pub returns-clause-faults : goal.returns-clause-faults
returns-clause-faults c = none_failed c.loop-file.files (λ k h d. c.loop-file.invariant.1 k (omega (arith, h, c.loop-file-test.false)) d)
