use Rattle.std.proofs.Common.{arith}
use Rattle.text_tables.specs.declared.openings.Relation.TheVariants.{Apart}
use Rattle.text_tables.proofs.Relating.{known}
use Rattle.text_tables.proofs.relations.Relations.to_earlier.Goals as goal

pub returns-then-before-row : goal.returns-then-before-row
returns-then-before-row c = λ all are. known all c.args.self.now c.index.result.now c.as_slice-row.result.now c.args.list c.args.before Apart (omega arith) c.index.ensures c.as_slice-row.ensures.value (omega arith) are
