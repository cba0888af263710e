use Rattle.noted_names.proofs.Placed.{placed_after, place_noted}
use Rattle.noted_names.proofs.table.PlaceTable.note.Goals as goal

pub invariant_of-self : goal.invariant_of-self
invariant_of-self c = record {
  placed = placed_after c.args.self.now.memo.table c.note.new.self.table c.args.name.now c.args.place c.note.result c.args.self.now.placed c.note.ensures.ok c.note.ensures.err;
}

pub returns : goal.returns
returns c = place_noted c.args.self.now.memo.table c.note.new.self.table c.args.name.now c.args.place c.note.result c.args.self.now.placed c.note.ensures.ok
