use Rattle.std.proofs.Common.{ap₂}
use Rattle.noted_names.specs.Memos.{places}
use Rattle.noted_names.specs.Naming.{places_in}
use Rattle.noted_names.proofs.Noting.{still_right}
use Rattle.noted_names.proofs.naming.note_name.Goals as goal

pub returns-clause-right : goal.returns-clause-right
returns-clause-right g c =
    still_right c.args.memo.now.table c.note.new.self.table c.args.name.now (places c.declared_at.result c.resource_at.result) c.in_ok-note.ensures.ok (places_in (g.N.Names.tree c.args.names.now) c.args.operation) c.requires (ap₂ places c.declared_at.ensures c.resource_at.ensures)
