use Rattle.std.proofs.Common.{ap, length, arith}
use Rattle.lowered_words.specs.Code.{words_tree}
use Rattle.lowered_behaviors.proofs.Flagged.{way_child}
use Rattle.lowered_behaviors.proofs.positions.+way.Goals as goal

pub way-requires : goal.way-requires
way-requires t c = (omega (arith, ap length c.in-Some.ensures, c.decreases), tt)

pub returns-in-Some-way : goal.returns-in-Some-way
returns-in-Some-way t c =
    way_child (words_tree c.args.words.now) c.args.positions.now c.in-Some.above.now c.in-Some.here c.in-Child.place c.in-Some-way.above c.child.result c.in-Some.ensures c.in-Child.is c.in-Some-way.ensures c.child.ensures
