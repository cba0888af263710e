use Rattle.std.proofs.Common.{refl}
use Rattle.name_tables.specs.TableViews.{value_of}
use Rattle.name_tables.proofs.Stands.{finds_set}
use Rattle.name_tables.proofs.named_values.NamedValues.put.Goals as goal

pub invariant_of-self : goal.invariant_of-self
invariant_of-self g c = record {
  placed = finds_set (value_of c.args.self.now.places) c.args.self.now.entries.items _ c.in-Some.place c.index_mut.result.now c.args.value c.args.self.now.placed c.index_mut.ensures.value refl;
}
