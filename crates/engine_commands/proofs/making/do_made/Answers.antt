use Rattle.std.proofs.Common.{List, ℕ}
use Rattle.lisa_outcomes.proofs.Endings.{passed_ends, stopped_ends}
use Rattle.engine_commands.specs.Tasks.{GivesUnder}
use Rattle.engine_commands.proofs.Made.{made_finds, unmade_finds, cut_wanted}
use Rattle.engine_commands.proofs.making.do_made.Goals as goal

pub returns-in-Ok-clause-ends : goal.returns-in-Ok-clause-ends
returns-in-Ok-clause-ends g c = λ wanted memories makes.
    let here = rw c.in-Ok.is at makes in
    passed_ends {T = Unit {0}} {W = List ℕ} g.E.Engine.machine _ _ _
    (λ input machine. GivesUnder c.args.task machine c.args.third.now input) _ _ c.in-Ok.engine _ _ _ _ _ (made_finds _ wanted memories c.in-Ok.engine here)
    (λ b. (b.0, cut_wanted c.args.task _ wanted memories c.in-Ok.engine c.args.third.now _ _ _ _ here b.1)) c.do_task.ensures.ends

pub returns-in-Err-clause-ends : goal.returns-in-Err-clause-ends
returns-in-Err-clause-ends g c = λ wanted memories makes.
    rw c.unmade.ensures (stopped_ends {T = Unit {0}} {W = List ℕ} g.E.Engine.machine _ _ _
    (λ input machine. GivesUnder c.args.task machine c.args.third.now input) _ _ _ _ (unmade_finds _ wanted memories c.in-Err.fault (rw c.in-Err.is at makes)))
