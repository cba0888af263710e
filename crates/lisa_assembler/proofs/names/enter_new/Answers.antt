use Rattle.lisa_assembler.proofs.Doubles.{not_seen}
use Rattle.lisa_assembler.proofs.names.enter_new.Goals as goal

pub returns-then-new-clause-new : goal.returns-then-new-clause-new
returns-then-new-clause-new c = λ names h. let e = c.in_ok-new.ensures names h in (not_seen names c.args.name.now c.in_ok-new.new e.0 c.if-new.true, e.1)
