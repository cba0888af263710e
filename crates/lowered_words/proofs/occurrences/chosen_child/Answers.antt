use Rattle.lowered_words.proofs.Choosing.{child_kept, beside_kept}
use Rattle.lowered_words.proofs.occurrences.chosen_child.Goals as goal

pub returns-then-above : goal.returns-then-above
returns-then-above c d own has same = child_kept d c.args.table.now.links.keys has c.args.place c.args.operation own c.args.above c.child.result.place same c.if-above.true c.child.ensures

pub returns-else-above : goal.returns-else-above
returns-else-above c d own has same = beside_kept d c.args.place c.args.operation own c.args.above same c.if-above.false
