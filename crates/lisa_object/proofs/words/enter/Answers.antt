use Rattle.lisa_object.proofs.SeenLaws.{entered, is_new}
use Rattle.lisa_object.proofs.words.enter.Goals as goal

pub returns-clause-new : goal.returns-clause-new
returns-clause-new c = λ names h. (is_new c.args.seen.now names c.args.name.now c.in_ok-insert.field-0 h (rw c.in_ok-name.ensures at c.in_ok-insert.ensures.added), entered c.args.seen.now c.insert.new.self names c.args.name.now h (rw c.in_ok-name.ensures at c.in_ok-insert.ensures.updates))
