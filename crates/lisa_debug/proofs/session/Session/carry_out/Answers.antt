use Rattle.std.proofs.Common.{sym, subst}
use Rattle.lisa_debug.specs.Commands.{IsShown}
use Rattle.lisa_debug.specs.Answers.{told}
use Rattle.lisa_debug.proofs.Fronts.{puts_memory, puts_at, on_ok}
use Rattle.lisa_debug.proofs.session.Session.carry_out.Goals as goal

pub go-requires-clause-live : goal.go-requires-clause-live
go-requires-clause-live g c = c.requires.live

pub go-requires-clause-within : goal.go-requires-clause-within
go-requires-clause-within g c = c.requires.within

pub go-requires-clause-shown : goal.go-requires-clause-shown
go-requires-clause-shown g c = c.requires.shown

pub answer_now-requires-clause-live : goal.answer_now-requires-clause-live
answer_now-requires-clause-live g c = c.in-Ok.ensures.live

pub answer_now-requires-clause-shown : goal.answer_now-requires-clause-shown
answer_now-requires-clause-shown g c = subst (λ k. IsShown k.machine.items k.machine.arrays c.args.command) (sym c.in-Ok.ensures.same) c.requires.shown

pub returns-in-Ok-clause-puts : goal.returns-in-Ok-clause-puts
returns-in-Ok-clause-puts g c =
    let came = c.in-Ok.ensures in
    puts_at (λ i. told (came.same i) (came.stands i) c.args.command) c.answer_now.ensures.puts

pub returns-in-Ok-clause-came : goal.returns-in-Ok-clause-came
returns-in-Ok-clause-came g c = on_ok c.answer_now.result c.in-Ok.ensures

pub returns-in-Err-clause-puts : goal.returns-in-Err-clause-puts
returns-in-Err-clause-puts g c = puts_memory _ _ _
