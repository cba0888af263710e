use Rattle.lisa_board.proofs.Seeing.{seen_again, printed_again}
use Rattle.lisa_board.proofs.console.look_again.Goals as goal

pub returns-in-Some-clause-port : goal.returns-in-Some-clause-port
returns-in-Some-clause-port g c = λ input earlier row was.
    seen_again c.args.console c.in-Some.console input earlier row (g.E.Engine.present c.args.engine.now).items c.args.port.now c.look.result c.in-Some.is was c.look.ensures.port

pub returns-in-Some-clause-printed : goal.returns-in-Some-clause-printed
returns-in-Some-clause-printed g c = λ input earlier row was had.
    printed_again c.args.console c.in-Some.console input earlier row (g.E.Engine.present c.args.engine.now).items c.args.port.now c.args.printed.now.items c.look.new.printed.items c.look.result
    c.in-Some.is was had c.look.ensures.printed
