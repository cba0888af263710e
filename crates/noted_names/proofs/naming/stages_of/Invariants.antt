use Rattle.noted_names.specs.Memos.{AgreesWith}
use Rattle.noted_names.specs.Naming.{stage_places}
use Rattle.noted_names.proofs.naming.stages_of.Given as goal

abbrev pub invariant-each : goal.invariant-each
invariant-each g l = AgreesWith (stage_places (g.N.Names.tree l.names)) l.memo.table
