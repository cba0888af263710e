use Rattle.std.proofs.Common.{List, drop, ◌++◌}
use Rattle.instruction_texts.specs.declared.shapes.Shape.{Shape}
use Rattle.text_tables.specs.Openings.{Share}
use Rattle.text_tables.proofs.openings.relation_behind.Given as goal

abbrev pub invariant-pieces : goal.invariant-pieces
invariant-pieces l = (ss us : List Shape) → Share (l.first ++ ss) (l.second ++ us) → Share (drop l.i l.first ++ ss) (drop l.i l.second ++ us)
