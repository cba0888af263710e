use Rattle.std.proofs.Common.{ap, Err}
use Rattle.engine_commands.proofs.Heard.{heard_ends, unheard_ends}
use Rattle.engine_commands.proofs.boards.print_board.Goals as goal

pub returns-in-Ok-clause-ends : goal.returns-in-Ok-clause-ends
returns-in-Ok-clause-ends g c =
    heard_ends (g.E.Engine.machine c.args.engine.now) c.args.board.now c.args.edges (g.I.Source.left c.args.input.now) _ c.in-Ok.bytes.items _ _ _ _ _
    c.in-Ok.ensures.short c.in-Ok.ensures.bytes (rw c.deref.ensures.value at c.put_printed.ensures)

pub returns-in-Err-clause-ends : goal.returns-in-Err-clause-ends
returns-in-Err-clause-ends g c =
    rw c.unheard.ensures (unheard_ends (g.E.Engine.machine c.args.engine.now) c.args.board.now c.args.edges (g.I.Source.left c.args.input.now) _ _ c.in-Err.end _ _
    (λ bytes told is. c.in-Err.ensures.too_long bytes told (ap Err is)) (λ is. c.in-Err.ensures.fault (ap Err is)))
