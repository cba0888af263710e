use Rattle.lisa_io.proofs.Known.{appends_none}
use Rattle.std.proofs.Common.{arith, subst}
use Rattle.lisa_debug.specs.Runs.{Ran}
use Rattle.lisa_debug.proofs.Readings.{consumes_none}
use Rattle.lisa_debug.proofs.Telling.{gives_told, ran_nothing}
use Rattle.lisa_debug.proofs.input.answer_input.Goals as goal

pub returns-in-Ok-clause-gives : goal.returns-in-Ok-clause-gives
returns-in-Ok-clause-gives g c bytes is =
    gives_told _ bytes _ _ _ _ _ is
    (subst (λ course. Ran course (g.I.Source.left c.args.input.now) (g.I.Source.left c.answer_lines.new.input) (g.O.Sink.written c.args.out.now) (g.O.Sink.written c.answer_lines.new.out)
    c.answer_lines.result) c.in-Ok.ensures.course c.answer_lines.ensures.ran)

pub returns-in-Err-clause-ran : goal.returns-in-Err-clause-ran
returns-in-Err-clause-ran g c = ran_nothing _ _ _ (consumes_none _) (0, omega arith, appends_none _)
