use Rattle.name_tables.proofs.Stands.{finds_taken}
use Rattle.name_tables.specs.TableViews.{value_of}
use Rattle.name_tables.proofs.named_values.NamedValues.truncate.Goals as goal

pub invariant_of-self : goal.invariant_of-self
invariant_of-self g c = record {
  placed = finds_taken (value_of c.args.self.now.places) c.args.self.now.entries.items c.truncate.new.self.items c.args.count c.args.self.now.placed c.truncate.ensures.items;
}
