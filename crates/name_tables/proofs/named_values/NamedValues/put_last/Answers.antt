use Rattle.std.proofs.Common.{◌∙◌}
use Rattle.name_tables.proofs.Stands.{finds_pushed}
use Rattle.name_tables.proofs.named_values.NamedValues.put_last.Goals as goal

pub invariant_of-self-2 : goal.invariant_of-self-2
invariant_of-self-2 g c = record {
  placed = finds_pushed c.args.self.now.places c.insert.new.self c.args.self.now.entries.items c.push.new.self.items c.args.name.now c.in_ok-key.key c.in_ok-clone.field-0 c.args.value c.len-place.result _ c.args.self.now.placed c.requires
      c.in_ok-key.ensures.cases c.in_ok-clone.ensures.cases (c.len-place.ensures ∙ c.args.self.now.entries.ok.0) c.in_ok-insert.ensures.updates c.push.ensures.items;
}
